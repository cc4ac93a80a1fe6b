-- An inode less, whose blocks wait.
use Rattle.std.proofs.Common.{◌≡◌, ◌≢◌, ℕ, ◌*◌, ◌<◌, ◌≤◌, Bool, true, false, cond, not, List, [], ◌∷◌, ◌++◌, length, Option, Some, None, refl, sym, ◌∙◌, ap, subst, arith, inl, inr, length-append, append-nil}
use Rattle.std.specs.Prelude.{is_none}
use Rattle.std.proofs.lemmas.Bool.{cases_Bool, cases_eq, cases_lt, eq-eqb, ne_eqb, and_left, and_right, lt-ltb, ltb-true}
use Rattle.std.proofs.lemmas.List.{length-map}
use Rattle.vx_alloc.specs.FreeMaps.{FreeMapView, is_free as is_free_block}
use Rattle.vx_base.specs.declared.inode.Inode.{Inode}
use Rattle.vx_extents.specs.Extents.{Mapped}
use Rattle.vx_filemaps.specs.GiveLaws.{AreUsed, AreWaiting, GiveLaws, IsSized}
use Rattle.vx_filemaps.specs.Settles.{CanWait, pended}
use Rattle.vx_inode.proofs.Counts.{removed, kept}
use Rattle.vx_inode.specs.Tables.{Table, inode_at, without_inode}
use Rattle.vx_model.specs.Contents.{settled_of}
use Rattle.vx_model.specs.EditLaws.{EditLaws}
use Rattle.vx_model.specs.Edits.{drop_node}
use Rattle.vx_model.specs.Images.{among}
use Rattle.vx_model.specs.LaidOut.{IsClosed, IsPlain, Owns}
use Rattle.vx_model.specs.Layout.{Layout, volume, blocks_at, block_numbers, maps_at, space_at, owned, is_owned, is_free, freed, given_up, pages_from}
use Rattle.vx_model.specs.State.{State}
use Rattle.vx_model.specs.Touching.{Touched, drop_touched, units_of}
use Rattle.vx_space.specs.Space.{no_space, page_blocks}
use Rattle.vx_space.specs.Uses.{uses}
use Rattle.vx_txn.specs.Calls.{HasGone}
use Rattle.vx_txn.specs.Directories.{DirectoryValue, blocks_in, maps_in}
use Rattle.vx_txn.specs.Edits.{AreBlocks, all_blocks, blocks_past, units_from}
use Rattle.vx_txn.specs.Metas.{HasDirectory, directory_of, IsStateOf, Stands}
use Rattle.vx_txn.specs.declared.meta.Meta.{Meta}
use Rattle.vx_txn.proofs.Changes.{FreeAfter, edited, next_gone, stands_of}
use Rattle.vx_txn.proofs.Claims.{free_is, owned_below, same_free}
use Rattle.vx_txn.proofs.Growing.{among_uses}
use Rattle.vx_txn.proofs.MetaLaws.{owned_used}
use Rattle.vx_txn.proofs.Settled.{blocks_are, blocks_few, maps_few, settled_here}
use Rattle.vx_txn.proofs.StateLaws.{inode_of_option, blocks_here, maps_here, directory_here, nothing_here}

pub all_past : (o : Option DirectoryValue) → blocks_past 0 0 o ≡ all_blocks o
all_past None = refl
all_past (Some d) = refl

module _ (m : Meta) (s : State) (is : Stands m s) (at : ℕ) where
  given_by : (o : Option DirectoryValue) → directory_of m at ≡ o → given_up s.layout at ≡ all_blocks o
  given_by None there =
      let none = nothing_here m s is at there in
      λ i. page_blocks (pages_from 0 (blocks_here m s is at None there i) ++ (none.space i).settled) ++ maps_here m s is at None there i
  given_by (Some d) there = λ i. page_blocks (settled_here m s is at d there i) ++ maps_here m s is at (Some d) there i

  owned_by : (o : Option DirectoryValue) → directory_of m at ≡ o → owned s.layout at ≡ all_blocks o
  owned_by None there = (nothing_here m s is at there).none
  owned_by (Some d) there = λ i. sym (blocks_are m s is at d there) i ++ (page_blocks ((directory_here m s is at d there).is.space i).present ++ maps_here m s is at (Some d) there i)

  few_by : (o : Option DirectoryValue) → directory_of m at ≡ o → length (all_blocks o) ≤ 65
  few_by None there = omega arith
  few_by (Some d) there =
      let both = length-append (page_blocks d.maps.space.present) d.maps.maps in
      let blocks = length-map d.maps.space.present (λ (x : Mapped). x.block) in
      let pages = blocks_few m s is at d there in
      let maps = maps_few m s is at d there in
      omega arith

  paged_by : (o : Option DirectoryValue) → directory_of m at ≡ o → AreBlocks o
  paged_by None there = tt
  paged_by (Some d) there = let shape = (directory_here m s is at d there).shape in record { same_count = shape.same_count; pages = shape.pages }

  abbrev pub all : List ℕ
  all = all_blocks (directory_of m at)

  given_is : given_up s.layout at ≡ all
  given_is = given_by (directory_of m at) refl

  owned_is : owned s.layout at ≡ all
  owned_is = owned_by (directory_of m at) refl

  pub all_few : length all ≤ 65
  all_few = few_by (directory_of m at) refl

  pub all_paged : AreBlocks (directory_of m at)
  all_paged = paged_by (directory_of m at) refl

  -- ---- they are used, and stand there once

  sized : IsSized m.free
  sized = record { per_unit = let e : m.free.per_unit ≡ 4063 = is.is.per_unit in omega arith; bits = is.is.bits; places = is.is.places }

  owns : (b : ℕ) → among all b ≡ true → Owns s.layout at b
  owns b has = ap (λ (xs : List ℕ). among xs b) owned_is ∙ has

  owned_there : at < 128 * s.layout.units → (b : ℕ) → among all b ≡ true → is_owned s.layout b ≡ true
  owned_there low b has = owned_below s.layout b (128 * s.layout.units) at low (owns b has)

  are_used : at < 128 * s.layout.units → AreUsed all m.free
  are_used low = record {
    used = λ b some.
        let has : among all b ≡ true = among_uses all b ∙ lt-ltb 0 (uses all b) (omega arith) in
        owned_used m s is b (is.laid_out.use_of_blocks.data_blocks at b (owns b has)) ∙ owned_there low b has;
    once = λ b. subst (λ (xs : List ℕ). uses xs b ≤ 1) owned_is (is.laid_out.use_of_blocks.apart at b);
  }

  pub all_wait : GiveLaws → at < 128 * s.layout.units → (place : ℕ) → CanWait place all m.free
  all_wait laws low place = laws.can_wait place all m.free sized (are_used low)

  -- ---- the free blocks after it

  module _ (give_laws : GiveLaws) (low : at < 128 * s.layout.units) (place : ℕ) where
    abbrev after : Layout
    after = freed s.layout place at

    waiting : AreWaiting place all m.free (pended place all m.free)
    waiting = give_laws.wait place all m.free sized (are_used low)

    pending_is : (b : ℕ) → after.pending b ≡ cond (among all b) (Some place) (s.layout.pending b)
    pending_is b = ap (λ (xs : List ℕ). cond (among xs b) (Some place) (s.layout.pending b)) given_is

    none_left : owned after at ≡ []
    none_left = λ i. block_numbers (cond (eq-eqb at at refl i) [] (s.layout.directories at)) ++ (page_blocks (cond (eq-eqb at at refl i) no_space (s.layout.files at)).present ++ cond (eq-eqb at at refl i) [] (s.layout.maps at))

    pub blocks_other : (n : ℕ) → n ≢ at → blocks_at after n ≡ blocks_at s.layout n
    blocks_other n ne = ap (λ (c : Bool). cond c [] (s.layout.directories n)) (ne_eqb n at ne)

    pub maps_other : (n : ℕ) → n ≢ at → maps_at after n ≡ maps_at s.layout n
    maps_other n ne = ap (λ (c : Bool). cond c [] (s.layout.maps n)) (ne_eqb n at ne)

    pub space_other : (n : ℕ) → n ≢ at → space_at after n ≡ space_at s.layout n
    space_other n ne = ap (λ (c : Bool). cond c no_space (s.layout.files n)) (ne_eqb n at ne)

    pub blocks_gone : blocks_at after at ≡ []
    blocks_gone = ap (λ (c : Bool). cond c [] (s.layout.directories at)) (eq-eqb at at refl)

    pub maps_gone : maps_at after at ≡ []
    maps_gone = ap (λ (c : Bool). cond c [] (s.layout.maps at)) (eq-eqb at at refl)

    as_before : (b : ℕ) → among all b ≡ false → is_free after b ≡ is_free s.layout b
    as_before b miss =
        same_free s.layout after b refl refl (λ n. elim (cases_eq n at) [
          | inl here ↦ subst (λ (i : ℕ). among (owned after i) b ≡ among (owned s.layout i) b) (sym here)
              (ap (λ (xs : List ℕ). among xs b) none_left ∙ sym (ap (λ (xs : List ℕ). among xs b) owned_is ∙ miss))
          | inr other ↦ λ i. among (block_numbers (blocks_other n other i) ++ (page_blocks (space_other n other i).present ++ maps_other n other i)) b
        ]) (pending_is b ∙ ap (λ (c : Bool). cond c (Some place) (s.layout.pending b)) miss)

    none_used : (b : ℕ) → among all b ≡ false → uses all b ≡ 0
    none_used b miss = elim (cases_lt 0 (uses all b)) [
      | inl some ↦ absurd (let e : true ≡ false = sym (among_uses all b ∙ lt-ltb 0 (uses all b) some) ∙ miss in cc)
      | inr none ↦ omega arith
    ]

    some_used : (b : ℕ) → among all b ≡ true → 1 ≤ uses all b
    some_used b hit = let some : 0 < uses all b = ltb-true 0 (uses all b) (sym (among_uses all b) ∙ hit) in omega arith

    blocks_wait : FreeAfter m.free (pended place all m.free) after
    blocks_wait = record {
      free = λ b. ap (λ (v : FreeMapView). is_free_block v b) waiting.rest ∙ is.is.free b ∙ elim (cases_Bool (among all b)) [
        | inl hit ↦
            free_is s.layout b ∙ and_right _ _ (and_left _ _ (ap not (owned_there low b hit)))
            ∙ sym (free_is after b ∙ and_right _ _ (and_right _ _ (ap is_none (pending_is b ∙ ap (λ (c : Bool). cond c (Some place) (s.layout.pending b)) hit))))
        | inr miss ↦ sym (as_before b miss)
      ];
      pending = λ b. elim (cases_Bool (among all b)) [
        | inl hit ↦ waiting.wait b (some_used b hit) ∙ sym (pending_is b ∙ ap (λ (c : Bool). cond c (Some place) (s.layout.pending b)) hit)
        | inr miss ↦ waiting.others b (none_used b miss) ∙ is.is.pending b ∙ sym (pending_is b ∙ ap (λ (c : Bool). cond c (Some place) (s.layout.pending b)) miss)
      ];
      units = ap (λ (v : FreeMapView). v.units) waiting.rest;
      first = ap (λ (v : FreeMapView). v.first) waiting.rest;
      per_unit = ap (λ (v : FreeMapView). v.per_unit) waiting.rest;
      bar = ap (λ (v : FreeMapView). v.bar) waiting.rest;
      bits = ap (λ (v : FreeMapView). length v.free) waiting.rest;
      places = waiting.sized.places ∙ ap (λ (v : FreeMapView). 4096 * v.units) waiting.rest ∙ sym is.is.places;
    }

module _ (laws : EditLaws) (closed : (s : State) (ino : ℕ) → IsPlain s → IsClosed s.tree ino) (give_laws : GiveLaws) (base s : State) (m k : Meta) (t v : Touched) (gone : HasGone base s m t) (at place : ℕ) where
  pub dropped_gone : at < 128 * s.layout.units → at ≢ 2 → k.inodes ≡ without_inode m.inodes at → directory_of k at ≡ None → ((n : ℕ) → n ≢ at → directory_of k n ≡ directory_of m n)
      → k.free ≡ pended place (all_blocks (directory_of m at)) m.free → k.first ≡ m.first
      → v ≡ record t { inodes = t.inodes ++ at ∷ []; units = t.units ++ units_from m.first (all_blocks (directory_of m at)) } → HasGone base (drop_node s place at) k v
  dropped_gone low other inodes here apart free first touched =
      let stands = stands_of base s m t gone in
      let new : State = drop_node s place at in
      let none : inode_at k.inodes at ≡ None = ap (λ (x : Table). inode_at x at) inodes ∙ removed m.inodes.inodes at in
      let state : IsStateOf k new =
      edited m k s new at gone.state
      (record { inodes = λ n ne. ap (λ (x : Table). inode_at x n) inodes ∙ kept m.inodes.inodes at n ne; directories = apart; units = ap (λ (x : Table). x.units) inodes; first = first })
      (record {
        nodes = λ n ne. kept s.tree.nodes at n ne;
        blocks = blocks_other m s stands at give_laws low place;
        maps = maps_other m s stands at give_laws low place;
        spaces = space_other m s stands at give_laws low place;
        units = refl;
        log_blocks = refl;
        limit = refl;
      })
      (record {
        inode = none ∙ sym (ap (inode_of_option (settled_of new.layout at)) (removed s.tree.nodes at));
        blocks = blocks_gone m s stands at give_laws low place ∙ sym (ap blocks_in here);
        maps = maps_gone m s stands at give_laws low place ∙ sym (ap maps_in here);
        kind = subst (λ (i : Option Inode). HasDirectory i (directory_of k at)) (sym none) (subst (HasDirectory None) (sym here) tt);
      })
      (subst (λ (f : FreeMapView). FreeAfter m.free f new.layout) (sym free) (blocks_wait m s stands at give_laws low place)) in
      let units : units_of (volume s.layout) (given_up s.layout at) ≡ units_from m.first (all_blocks (directory_of m at)) = λ i. units_from (sym gone.state.first i) (given_is m s stands at i) in
      next_gone laws base s new m k t (drop_touched s at) v gone state (laws.dropped s place at gone.laid_out other (closed s at gone.plain)) (laws.dropped_plain s place at gone.plain) (laws.dropped_touches s place at gone.laid_out)
      (touched ∙ (λ i. record { inodes = t.inodes ++ at ∷ []; blocks = sym (append-nil t.blocks) i; maps = sym (append-nil t.maps) i; units = t.units ++ sym units i }))
