use Rattle.std.proofs.Common.{◌∷◌, rules}
use Rattle.cells.specs.Have.{item}
use Rattle.cells.proofs.Sharings.{kept_on}
use Rattle.cells.proofs.making.release_both.Goals as goal

pub release-requires-2 : goal.release-requires-2
release-requires-2 g c =
    record {
      tree = c.requires.right;
      rest = c.requires.rest;
      have = c.release.ensures.released.have c.requires.left (item c.args.right.0 c.requires.right ∷ c.requires.rest) c.requires.have;
    }

pub returns : goal.returns
returns g c =
    record {
      dropped = record {
        have = λ u v rest h.
            c.release-2.ensures.released.have v rest (c.release.ensures.released.have u (item c.args.right.0 v ∷ rest) h);
      };
      kept = kept_on _ _ _ c.release.ensures.kept c.release-2.ensures.kept;
      touches = search rules;
    }
