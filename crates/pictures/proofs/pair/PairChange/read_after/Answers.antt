use Rattle.pictures.proofs.Rows.{row_within, row_wide, row_copied}
use Rattle.pictures.proofs.pair.PairChange.read_after.Goals as goal

pub copy_row-requires : goal.copy_row-requires
copy_row-requires c =
    let v = c.args.self.now.after_valid.filled in
    (row_within _ _ _ c.args.row v c.requires.within, row_wide _ _ _ c.args.row _ v c.requires.within c.requires.width)

pub returns-clause-copied : goal.returns-clause-copied
returns-clause-copied c = row_copied _ _ _ c.args.row _ c.requires.within c.copy_row.ensures
