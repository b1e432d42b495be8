use Rattle.std.proofs.Common.{◌≡◌, ◌≢◌, length, sym, refl, arith}
use Rattle.std.proofs.lemmas.Bool.{eqb-true, eqb-false}
use Rattle.cells.proofs.Sharings.{kept_same, kept_on}
use Rattle.ropes.proofs.Bytes.{octets_each}
use Rattle.rope.proofs.Holds.{none_held}
use Rattle.rope_edit.proofs.Shares.{share_ok, share_is}
use Rattle.rope_edit.proofs.Builds.{builds, builds_none, free_leaf, builds_leaf, parted, shares, free_front, builds_no_front, free_back, builds_no_back, both_two, builds_node}
use Rattle.rope_edit.proofs.building.+from_bytes.Goals as goal

pub returns-then-is_empty : goal.returns-then-is_empty
returns-then-is_empty g t c =
    let b = c.args.bytes.now in
    let none : length b ≡ 0 = eqb-true _ _ (sym c.if-is_empty.ensures) in
    record { builds = builds (octets_each b (λ i h. (c.type_inv.bytes i).fits)) c.requires.few (builds_none _ b _ _ refl none); kept = kept_same _ }

pub leaf-requires : goal.leaf-requires
leaf-requires g t c = record { heap = free_leaf c.requires.heap; fits = c.if-bytes-le-LEAF_MAX.true }

pub returns-then-bytes-le-LEAF_MAX : goal.returns-then-bytes-le-LEAF_MAX
returns-then-bytes-le-LEAF_MAX g t c =
    let o = c.leaf.ensures in
    let some : length c.args.bytes.now ≢ 0 = eqb-false _ _ (sym c.if-is_empty.ensures) in
    record { builds = builds o.octets c.requires.few (builds_leaf (omega arith) c.if-bytes-le-LEAF_MAX.true o.leafed); kept = o.kept }

pub split_at-requires : goal.split_at-requires
split_at-requires g t c =
    let n = length c.args.bytes.now in
    omega (arith, share_is n _ c.left_part.ensures.few c.left_part.ensures.many, (share_ok n c.if-bytes-le-LEAF_MAX.false).rest)

pub from_bytes-requires : goal.from_bytes-requires
from_bytes-requires g t c κs within =
    let s = parted c.if-bytes-le-LEAF_MAX.false c.requires.few (share_is _ _ c.left_part.ensures.few c.left_part.ensures.many) c.split_at.ensures.front c.split_at.ensures.back in
    (omega (arith, shares s, c.decreases), (within, (free_front s c.requires.heap, omega (arith, shares s, c.requires.few))))

pub returns-in_err-x : goal.returns-in_err-x
returns-in_err-x g t c =
    let s = parted c.if-bytes-le-LEAF_MAX.false c.requires.few (share_is _ _ c.left_part.ensures.few c.left_part.ensures.many) c.split_at.ensures.front c.split_at.ensures.back in
    let x = c.in_err-x.ensures in
    record { builds = rw c.from_residual.ensures (builds (octets_each _ (λ i h. (c.type_inv.bytes i).fits)) c.requires.few (builds_no_front s x.kept.long x.builds)); kept = x.kept }

pub from_bytes-y-requires : goal.from_bytes-y-requires
from_bytes-y-requires g t c κs within =
    let s = parted c.if-bytes-le-LEAF_MAX.false c.requires.few (share_is _ _ c.left_part.ensures.few c.left_part.ensures.many) c.split_at.ensures.front c.split_at.ensures.back in
    let x = c.in_ok-x.ensures in
    (omega (arith, shares s, c.decreases), (within, (free_back s x.kept.long x.builds c.requires.heap, omega (arith, shares s, c.requires.few))))

pub or_release-requires : goal.or_release-requires
or_release-requires g t c =
    let s = parted c.if-bytes-le-LEAF_MAX.false c.requires.few (share_is _ _ c.left_part.ensures.few c.left_part.ensures.many) c.split_at.ensures.front c.split_at.ensures.back in
    let x = c.in_ok-x.ensures in
    none_held (c.from_bytes-y.ensures.builds.runs (free_back s x.kept.long x.builds c.requires.heap))

pub returns-in_err-y : goal.returns-in_err-y
returns-in_err-y g t c =
    let s = parted c.if-bytes-le-LEAF_MAX.false c.requires.few (share_is _ _ c.left_part.ensures.few c.left_part.ensures.many) c.split_at.ensures.front c.split_at.ensures.back in
    let x = c.in_ok-x.ensures in
    let gone = c.in_err-y.ensures in
    let y = c.from_bytes-y.ensures in
    let none = rw (← gone.value) at y.builds in
    record {
      builds = rw c.from_residual-in_err-y.ensures (builds (octets_each _ (λ i h. (c.type_inv.bytes i).fits)) c.requires.few (builds_no_back s x.kept.long x.builds y.kept.long none gone.released gone.touches));
      kept = kept_on _ _ _ x.kept (kept_on _ _ _ y.kept gone.kept);
    }

pub node-requires : goal.node-requires
node-requires g t c =
    let s = parted c.if-bytes-le-LEAF_MAX.false c.requires.few (share_is _ _ c.left_part.ensures.few c.left_part.ensures.many) c.split_at.ensures.front c.split_at.ensures.back in
    let x = c.in_ok-x.ensures in
    let held = c.in_ok-y.ensures in
    let y = c.from_bytes-y.ensures in
    let some = rw (← held.value) at y.builds in
    rw held.released (both_two s x.kept.long x.builds y.kept.long some c.requires.heap)

pub returns : goal.returns
returns g t c =
    let s = parted c.if-bytes-le-LEAF_MAX.false c.requires.few (share_is _ _ c.left_part.ensures.few c.left_part.ensures.many) c.split_at.ensures.front c.split_at.ensures.back in
    let x = c.in_ok-x.ensures in
    let held = c.in_ok-y.ensures in
    let y = c.from_bytes-y.ensures in
    let o = c.node.ensures in
    let some = rw (← held.value) at y.builds in
    let joins = rw (held.released, held.touches) at o.joins in
    record {
      builds = builds (octets_each _ (λ i h. (c.type_inv.bytes i).fits)) c.requires.few (builds_node s x.kept.long x.builds y.kept.long some joins);
      kept = kept_on _ _ _ x.kept (kept_on _ _ _ y.kept (kept_on _ _ _ held.kept o.kept));
    }
