use Rattle.std.proofs.Common.{rules, ◌≡◌, ◌++◌, List, true, false, sym, subst, arith}
use Rattle.std.proofs.lemmas.Grind.{common_steps}
use Rattle.std.specs.List.{flat_map, AllByRecursion}
use Rattle.vx_base.specs.declared.inode.Extent.{Extent}
use Rattle.vx_sound.specs.Said.{chain_said, claims_below, extent_blocks}
use Rattle.vx_sound.specs.Facts.{IsExtentRight, AreInOrder, FitKind, AreClaimable}
use Rattle.vx_check.specs.Parts.{AreMarksOf}
use Rattle.vx_check.proofs.Claiming.{claimed_data, some_blocks}
use Rattle.vx_check.proofs.Ordering.{directory_is, pages_are}
use Rattle.vx_check.proofs.extents.check_extents.Goals as goal

pub returns-then-not-are_right-clause-wrong : goal.returns-then-not-are_right-clause-wrong
returns-then-not-are_right-clause-wrong c = λ image said marks _ h.
    let bad : c.are_right.result ≡ false = first_of (search rules, grind (arith, common_steps)) in
    c.are_right.ensures.wrong c.args.volume.now c.requires.block bad (subst (λ (es : List Extent). AllByRecursion (IsExtentRight c.args.volume.now c.args.value.now) es) (sym said) h.each)

pub returns-then-not-are_in_order-clause-wrong : goal.returns-then-not-are_in_order-clause-wrong
returns-then-not-are_in_order-clause-wrong c = λ image said marks _ h.
    let bad : c.are_in_order.result ≡ false = first_of (search rules, grind (arith, common_steps)) in
    c.are_in_order.ensures.wrong bad (subst AreInOrder (sym said) h.order)

pub returns-then-not-fit_kind-clause-wrong : goal.returns-then-not-fit_kind-clause-wrong
returns-then-not-fit_kind-clause-wrong c = λ image said marks _ h.
    let bad : c.fit_kind.result ≡ false = first_of (search rules, grind (arith, common_steps)) in
    c.fit_kind.ensures.wrong c.args.volume.now c.requires.block bad (subst (λ (es : List Extent). FitKind c.args.value.now.inode.kind c.args.volume.now c.args.value.now (flat_map extent_blocks es) es) (sym said) h.kind)

pub returns-clause-right : goal.returns-clause-right
returns-clause-right c = λ image said marks all.
    let v = c.args.volume.now in
    let i = c.args.value.now in
    let each : c.are_right.result ≡ true = first_of (search rules, grind (arith, common_steps)) in
    let order : c.are_in_order.result ≡ true = first_of (search rules, grind (arith, common_steps)) in
    let kind : c.fit_kind.result ≡ true = first_of (search rules, grind (arith, common_steps)) in
    let before = claims_below v image c.args.ino ++ chain_said v image i in
    let claimed = subst (λ (es : List Extent). AreClaimable v before (flat_map extent_blocks es) × AreMarksOf c.claim_all.new.marks (before ++ flat_map extent_blocks es)) said (c.claim_all.ensures.right before marks all) in (
      record {
        each = subst (λ (es : List Extent). AllByRecursion (IsExtentRight v i) es) said (c.are_right.ensures.right v c.requires.block each);
        order = subst AreInOrder said (c.are_in_order.ensures.right order);
        kind = subst (λ (es : List Extent). FitKind i.inode.kind v i (flat_map extent_blocks es) es) said (c.fit_kind.ensures.right v c.requires.block kind);
        claims = claimed.0;
      },
      claimed.1,
    )

pub returns-clause-wrong : goal.returns-clause-wrong
returns-clause-wrong c = λ image said marks bad h.
    let v = c.args.volume.now in
    let before = claims_below v image c.args.ino ++ chain_said v image c.args.value.now in
    c.claim_all.ensures.wrong before marks bad (subst (λ (es : List Extent). AreClaimable v before (flat_map extent_blocks es)) (sym said) h.claims)

pub returns-clause-few : goal.returns-clause-few
returns-clause-few c = λ all is.
    let kind : c.fit_kind.result ≡ true = first_of (search rules, grind (arith, common_steps)) in
    let d = directory_is c.args.volume.now c.args.value.now c.args.extents.now c.requires.block c.args.value.now.inode.kind is (c.fit_kind.ensures.right c.args.volume.now c.requires.block kind) in
    let few = d.2 in
    let long = pages_are c.args.extents.now in
    omega arith

pub returns-clause-data : goal.returns-clause-data
returns-clause-data c = λ all.
    let some = some_blocks c.args.marks.now in
    claimed_data c.args.volume.now some.0 (flat_map extent_blocks c.args.extents.now) (c.claim_all.ensures.right some.0 some.1 all).0
