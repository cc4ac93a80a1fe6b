-- The blocks of a directory, one after the other.
use Rattle.std.proofs.Common.{◌≡◌, ℕ, zero, suc, ◌+◌, ◌-◌, ◌/◌, ◌<◌, ◌≤◌, Bool, true, false, cond, List, [], ◌∷◌, ◌++◌, length, drop, get_or, Option, Some, None, refl, sym, ◌∙◌, ap, subst, arith, append-nil, length-append}
use Rattle.std.specs.Prelude.{◌==◌}
use Rattle.std.proofs.Math.Seq.{drop-cons}
use Rattle.std.proofs.lemmas.Bool.{eq-eqb, ne_eqb}
use Rattle.std.proofs.lemmas.List.{append_assoc, drop_all, length-map}
use Rattle.std.proofs.lemmas.Option.{none-some, same_Some}
use Rattle.vx_alloc.specs.FreeMaps.{FreeMapView, is_used, with_place}
use Rattle.vx_base.specs.declared.kind.Kind.{Kind}
use Rattle.vx_base.specs.declared.kind.Kind.TheVariants.{Data}
use Rattle.vx_extents.specs.Extents.{Mapped, mapped_at}
use Rattle.vx_filemaps.specs.Settles.{CanWait, pended}
use Rattle.vx_model.specs.Layout.{DirectoryBlock, block_numbers, pages_from}
use Rattle.vx_model.specs.Touching.{Touched}
use Rattle.vx_space.specs.Space.{page_blocks}
use Rattle.vx_txn.specs.Directories.{DirectoryValue, placed}
use Rattle.vx_txn.specs.Edits.{HasPages, units_from}
use Rattle.vx_txn.proofs.NameEdits.{numbers_placed}
use Rattle.vx_txn.proofs.Settled.{length_placed}

-- ---- the block of a page

page_at : (k : ℕ) (bs : List DirectoryBlock) (i p : ℕ) → i < length bs → p ≡ k + i → mapped_at (pages_from k bs) p ≡ Some (get_or (block_numbers bs) i 0, Data)
page_at k [] i p within at = absurd (omega (arith, within))
page_at k (d ∷ bs) zero p within at =
    let same : (k == p) ≡ true = eq-eqb k p (omega arith) in
    ap (λ (t : Bool). cond t (Some (d.block, Data)) (mapped_at (pages_from (k + 1) bs) p)) same
page_at k (d ∷ bs) (suc i) p within at =
    let other : (k == p) ≡ false = ne_eqb k p (λ same. absurd (omega (arith, at, same))) in
    ap (λ (t : Bool). cond t (Some (d.block, Data)) (mapped_at (pages_from (k + 1) bs) p)) other ∙ page_at (k + 1) bs i p (omega (arith, within)) (omega (arith, at))

module _ (d : DirectoryValue) (has : HasPages d) where
  pub length_blocks : length (page_blocks d.maps.space.present) ≡ length d.names.blocks
  length_blocks = length-map d.maps.space.present (λ (m : Mapped). m.block) ∙ has.same_count

  pub page_found : (i : ℕ) → i < length d.names.blocks → mapped_at d.maps.space.present i ≡ Some (get_or (page_blocks d.maps.space.present) i 0, Data)
  page_found i within =
      let bs = placed d.maps.space.present d.names.blocks in
      let count = length_placed d.maps.space.present d.names.blocks has.same_count in
      ap (λ (p : List Mapped). mapped_at p i) has.pages ∙ page_at 0 bs i i (omega arith) (omega arith)
      ∙ ap (λ (xs : List ℕ). Some (get_or xs i 0, Data)) (numbers_placed d.maps.space.present d.names.blocks has.same_count)

  -- what is found at a page is its block
  pub found_block : (i p b : ℕ) (kind : Kind) (o : Option (ℕ × Kind)) → i < length d.names.blocks → p ≡ i → o ≡ mapped_at d.maps.space.present p → o ≡ Some (b, kind) → b ≡ get_or (page_blocks d.maps.space.present) i 0
  found_block i p b kind o within at is found =
      ap (λ (x : ℕ × Kind). x.0) (same_Some (b, kind) _ (sym found ∙ is ∙ ap (mapped_at d.maps.space.present) at ∙ page_found i within))

  pub never_none : {P : Type 0} (i p : ℕ) (o : Option (ℕ × Kind)) → i < length d.names.blocks → p ≡ i → o ≡ mapped_at d.maps.space.present p → o ≡ None → P
  never_none i p o within at is none = absurd (none-some _ (sym none ∙ is ∙ ap (mapped_at d.maps.space.present) at ∙ page_found i within))

-- ---- blocks that wait, one after the other

module _ (place : ℕ) (blocks : List ℕ) (i b : ℕ) (v : FreeMapView) (within : i < length blocks) (is : b ≡ get_or blocks i 0) where
  next_left : drop i blocks ≡ b ∷ drop (i + 1) blocks
  next_left =
      let next : suc i ≡ i + 1 = omega arith in
      drop-cons blocks i 0 within ∙ (λ k. sym is k ∷ drop (next k) blocks)

  pub wait_first : CanWait place (drop i blocks) v → is_used v b ≡ true
  wait_first can = (subst (λ (xs : List ℕ). CanWait place xs v) next_left can).0

  pub wait_rest : CanWait place (drop i blocks) v → CanWait place (drop (i + 1) blocks) (with_place v b place)
  wait_rest can = (subst (λ (xs : List ℕ). CanWait place xs v) next_left can).1

  pub wait_next : pended place (drop i blocks) v ≡ pended place (drop (i + 1) blocks) (with_place v b place)
  wait_next = ap (λ (xs : List ℕ). pended place xs v) next_left

pub none_waits : (place : ℕ) (blocks : List ℕ) (i : ℕ) (v : FreeMapView) → length blocks ≤ i → pended place (drop i blocks) v ≡ v
none_waits place blocks i v past = ap (λ (xs : List ℕ). pended place xs v) (drop_all i blocks past)

-- ---- units that are touched, one after the other

-- the units of the blocks before are touched, and the others are left
pub record AreTouched (first from i : ℕ) (blocks : List ℕ) (old now : Touched) : Type 0 where
  pub rest : now ≡ record old { units = now.units }
  pub left : now.units ++ units_from first (drop i blocks) ≡ old.units ++ units_from first (drop from blocks)

pub none_touched : (first from : ℕ) (blocks : List ℕ) (old : Touched) → AreTouched first from from blocks old old
none_touched first from blocks old = record { rest = refl; left = refl }

module _ (first from i : ℕ) (blocks : List ℕ) (old now : Touched) (are : AreTouched first from i blocks old now) where
  count_left : length now.units + length (drop i blocks) ≡ length old.units + length (drop from blocks)
  count_left =
      let a = length-append now.units (units_from first (drop i blocks)) in
      let b = length-append old.units (units_from first (drop from blocks)) in
      let c = length-map (drop i blocks) (λ (x : ℕ). (x - first) / 4096) in
      let d = length-map (drop from blocks) (λ (x : ℕ). (x - first) / 4096) in
      let e = ap length are.left in
      omega arith

  pub has_room : i < length blocks → length old.units + length (drop from blocks) ≤ 70 → length now.units < 70
  has_room within few =
      let next = ap length (drop-cons blocks i 0 within) in
      let count = count_left in
      omega arith

  pub touched_next : (b unit : ℕ) (new : Touched) → i < length blocks → b ≡ get_or blocks i 0 → unit ≡ (b - first) / 4096 → new ≡ record now { units = now.units ++ unit ∷ [] } → AreTouched first from (i + 1) blocks old new
  touched_next b unit new within is unit_is more =
      let next : suc i ≡ i + 1 = omega arith in
      let left : drop i blocks ≡ b ∷ drop (i + 1) blocks = drop-cons blocks i 0 within ∙ (λ k. sym is k ∷ drop (next k) blocks) in
      subst (AreTouched first from (i + 1) blocks old) (sym more) (record {
        rest = ap (λ (x : Touched). record x { units = now.units ++ unit ∷ [] }) are.rest;
        left =
            append_assoc now.units (unit ∷ []) (units_from first (drop (i + 1) blocks))
            ∙ ap (λ (u : ℕ). now.units ++ u ∷ units_from first (drop (i + 1) blocks)) unit_is
            ∙ sym (ap (λ (xs : List ℕ). now.units ++ units_from first xs) left) ∙ are.left;
      })

  pub all_touched : length blocks ≤ i → now ≡ record old { units = old.units ++ units_from first (drop from blocks) }
  all_touched past =
      are.rest ∙ ap (λ (us : List ℕ). record old { units = us })
      (sym (append-nil now.units) ∙ sym (ap (λ (xs : List ℕ). now.units ++ units_from first xs) (drop_all i blocks past)) ∙ are.left)

-- ---- two lists of blocks

pub pended_append : (place : ℕ) (xs ys : List ℕ) (v : FreeMapView) → pended place (xs ++ ys) v ≡ pended place ys (pended place xs v)
pended_append place [] ys v = refl
pended_append place (x ∷ xs) ys v = pended_append place xs ys (with_place v x place)

pub can_wait_first : (place : ℕ) (xs ys : List ℕ) (v : FreeMapView) → CanWait place (xs ++ ys) v → CanWait place xs v
can_wait_first place [] ys v can = tt
can_wait_first place (x ∷ xs) ys v can = (can.0, can_wait_first place xs ys (with_place v x place) can.1)

pub can_wait_second : (place : ℕ) (xs ys : List ℕ) (v : FreeMapView) → CanWait place (xs ++ ys) v → CanWait place ys (pended place xs v)
can_wait_second place [] ys v can = can
can_wait_second place (x ∷ xs) ys v can = can_wait_second place xs ys (with_place v x place) can.1
