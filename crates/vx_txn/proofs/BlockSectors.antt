-- What the sectors of directories' blocks and of map blocks have.
use Rattle.std.proofs.Common.{◌≡◌, ℕ, zero, suc, ◌+◌, ◌*◌, ◌<◌, ◌≤◌, ◌^◌, true, List, [], ◌∷◌, ◌++◌, length, take, drop, set, get_or, Option, Some, None, refl, sym, ap, subst, ◌∙◌, arith}
use Rattle.std.specs.Prelude.{IsTrue, IfSome, slice_get}
use Rattle.std.specs.Option.{option_map}
use Rattle.std.proofs.lemmas.Bool.Decides.{nat_tests}
use Rattle.std.proofs.lemmas.List.{length-drop, take_all}
use Rattle.std.proofs.lemmas.Option.{none-some, same_Some, slice_get_past}
use Rattle.vx_base.specs.declared.inode.DirEntry.{DirEntry}
use Rattle.vx_base.specs.declared.inode.Extent.{Extent}
use Rattle.vx_extents.specs.Extents.{Mapped, stretches}
use Rattle.vx_layout.specs.LogForms.{AfterImage}
use Rattle.vx_layout.specs.Places.{Volume, block_sector, is_data, sector_part}
use Rattle.vx_log.specs.Batches.{batch_set}
use Rattle.vx_model.specs.Contents.{parsed_of}
use Rattle.vx_model.specs.Images.{content_at, sectors_in}
use Rattle.vx_model.specs.LaidOut.{IsLaidOut}
use Rattle.vx_model.specs.Layout.{Claimed, DirectoryBlock, blocks_at, chain_at, chain_of, pages_from, settled_at, settled_maps, volume}
use Rattle.vx_model.specs.State.{State}
use Rattle.vx_space.specs.Space.{maps_for, page_blocks}
use Rattle.vx_txn.specs.Directories.{DirectoryValue, placed}
use Rattle.vx_txn.specs.Metas.{directory_of, Stands}
use Rattle.vx_txn.specs.Staged.{IsRight, Adds, HasBlock, HasMaps, with_parts}
use Rattle.vx_txn.specs.declared.meta.Meta.{Meta}
use Rattle.vx_txn.proofs.Gains.{Has, still_has, adds_more, adds_set, has_new}
use Rattle.vx_txn.proofs.Settled.{blocks_few, extents_few, maps_few, maps_settled, settled_here}
use Rattle.vx_txn.proofs.StateLaws.{blocks_here, directory_here, maps_here, nothing_here}
use Rattle.vx_txn.proofs.EntryLaws.{placed_get}

-- ---- both sectors of a block

abbrev pub HasParts : List AfterImage → ℕ → Type 0
HasParts batch b = (i : ℕ) → i < 2 → sectors_in batch (block_sector 2 b + i) ≡ true

-- the block holds these bytes, by what the state says
abbrev pub Says : State → ℕ → List ℕ → Type 0
Says s b bytes = (i : ℕ) → i < 2 → content_at (volume s.layout) (parsed_of s) (block_sector 2 b + i) ≡ Some (sector_part i bytes)

module _ (old new : List AfterImage) (b : ℕ) (bytes : List ℕ) (is : new ≡ with_parts old b bytes) where
  abbrev first_set : List AfterImage
  first_set = batch_set old (block_sector 2 b) (sector_part 0 bytes)

  pub has_parts : HasParts new b
  has_parts zero lt =
      let at : block_sector 2 b ≡ block_sector 2 b + 0 = omega arith in
      subst (λ (batch : List AfterImage). Has (block_sector 2 b + 0) batch) (sym is)
      (still_has first_set (block_sector 2 b + 1) (sector_part 1 bytes) (block_sector 2 b + 0) (has_new old first_set (block_sector 2 b) (block_sector 2 b + 0) (sector_part 0 bytes) refl at))
  has_parts (suc i) lt =
      let at : block_sector 2 b + 1 ≡ block_sector 2 b + suc i = omega (arith, lt) in
      has_new first_set new (block_sector 2 b + 1) (block_sector 2 b + suc i) (sector_part 1 bytes) is at

  pub adds_block : (m : Meta) → ((s : State) → Stands m s → Says s b bytes) → Adds m 2 old new
  adds_block m says =
      let at : block_sector 2 b + 0 ≡ block_sector 2 b = omega arith in
      adds_more m 1 1 2 old first_set new
      (adds_set m old first_set (block_sector 2 b) (sector_part 0 bytes) refl (λ s stands. subst (λ (t : ℕ). IsRight s (t, sector_part 0 bytes)) at (says s stands 0 (omega arith))))
      (adds_set m first_set new (block_sector 2 b + 1) (sector_part 1 bytes) is (λ s stands. says s stands 1 (omega arith)))
      (omega arith)

-- ---- what stands there

pub if_some : {A : Type 0} (P : A → Type 0) (o : Option A) (x : A) → o ≡ Some x → IfSome o P → P x
if_some {A = A} P o x is h = subst (λ (q : Option A). IfSome q P) is h

pub map_some : {A B : Type 0} (f : A → B) (o : Option A) (x : A) (y : Option B) → o ≡ Some x → y ≡ option_map f o → y ≡ Some (f x)
map_some f o x y is e = e ∙ ap (option_map f) is

pub data_low : (v : Volume) (b : ℕ) → IsTrue (is_data v b) → b < v.first + 4096 * v.units
unfolding is_data
data_low v b is = grind (arith, nat_tests)

pub block_low : (s : State) (b : ℕ) → IsLaidOut s → IsTrue (is_data (volume s.layout) b) → b < 2 ^ 31
block_low s b laid there = omega (arith, data_low (volume s.layout) b there, laid.units_limit, laid.log_blocks)

-- ---- a directory's block

placed_at : (pages : List Mapped) (blocks : List (List DirEntry)) (i : ℕ) (es : List DirEntry) → length pages ≡ length blocks → slice_get blocks i ≡ Some es
    → slice_get (placed pages blocks) i ≡ Some (record { block = get_or (page_blocks pages) i 0; entries = es })
placed_at [] [] i es same got = absurd (none-some _ got)
placed_at [] (x ∷ blocks) i es same got = absurd (omega (arith, same))
placed_at (m ∷ pages) [] i es same got = absurd (none-some _ got)
placed_at (m ∷ pages) (x ∷ blocks) zero es same got = ap (λ (e : List DirEntry). Some (record { block = m.block; entries = e })) (same_Some x es got)
placed_at (m ∷ pages) (x ∷ blocks) (suc i) es same got = placed_at pages blocks i es (omega (arith, same)) got

module _ (m : Meta) (n : ℕ) (d : DirectoryValue) (there : directory_of m n ≡ Some d) (i : ℕ) (es : List DirEntry) (got : slice_get d.names.blocks i ≡ Some es) (b : ℕ) (at : b ≡ get_or (page_blocks d.maps.space.present) i 0) where
  pub holds : (s : State) → Stands m s → slice_get (blocks_at s.layout n) i ≡ Some (record { block = b; entries = es })
  holds s stands =
      ap (λ (bs : List DirectoryBlock). slice_get bs i) (blocks_here m s stands n (Some d) there)
      ∙ placed_at d.maps.space.present d.names.blocks i es (directory_here m s stands n d there).shape.same_count got
      ∙ ap (λ (x : ℕ). Some (record { block = x; entries = es })) (sym at)

  pub has_block : (batch : List AfterImage) → HasParts batch b → HasBlock m batch (record { ino = n; index = i })
  has_block batch has = λ s stands j x is lt.
      let same : record { block = b; entries = es } ≡ x = same_Some _ x (sym (holds s stands) ∙ is) in
      subst (λ (y : DirectoryBlock). sectors_in batch (block_sector 2 y.block + j) ≡ true) same (has j lt)

-- ---- a directory's map block

module _ (m : Meta) (n : ℕ) (d : DirectoryValue) (there : directory_of m n ≡ Some d) where
  chain_is : (s : State) → Stands m s → chain_at s.layout n ≡ chain_of n (drop 6 (stretches d.maps.space.present)) d.maps.maps
  chain_is s stands = λ k. chain_of n (drop 6 (stretches (settled_here m s stands n d there k))) (maps_settled m s stands n d there k)

  one_of : (maps : List ℕ) (b : ℕ) → length maps ≤ 1 → slice_get maps 0 ≡ Some b → maps ≡ b ∷ []
  one_of [] b few first = absurd (none-some b first)
  one_of (x ∷ []) b few first = ap (λ (y : ℕ). y ∷ []) (same_Some x b first)
  one_of (x ∷ y ∷ maps) b few first = absurd (omega (arith, few))

  module _ (b : ℕ) (first : slice_get d.maps.maps 0 ≡ Some b) where
    abbrev pub extents : List Extent
    extents = drop 6 (stretches d.maps.space.present)

    pub one_block : (s : State) → Stands m s → chain_at s.layout n ≡ chain_of n extents (b ∷ [])
    one_block s stands = chain_is s stands ∙ ap (chain_of n extents) (one_of d.maps.maps b (maps_few m s stands n d there) first)

    pub all_extents : (s : State) → Stands m s → take 63 extents ≡ extents
    all_extents s stands =
        let count = length-drop 6 (stretches d.maps.space.present) in
        let few = extents_few d.maps.space.present in
        let pages = blocks_few m s stands n d there in
        take_all 63 extents (omega arith)

    found_by : (batch : List AfterImage) → HasParts batch b → (k : ℕ) (c : Claimed) → slice_get (chain_of n extents (b ∷ [])) k ≡ Some c → HasParts batch c.block
    found_by batch has zero c is = subst (λ (y : Claimed). HasParts batch y.block) (same_Some _ c is) has
    found_by batch has (suc k) c is = absurd (none-some c is)

    pub has_map : (batch : List AfterImage) → HasParts batch b → HasMaps m batch n
    has_map batch has = λ s stands k j c is lt. found_by batch has k c (sym (ap (λ (cs : List Claimed). slice_get cs k) (one_block s stands)) ∙ is) j lt

  none_by : (maps : List ℕ) → slice_get maps 0 ≡ None → maps ≡ []
  none_by [] is = refl
  none_by (x ∷ maps) is = absurd (none-some x (sym is))

  pub no_map : (batch : List AfterImage) → slice_get d.maps.maps 0 ≡ None → HasMaps m batch n
  no_map batch none = λ s stands k j c is lt.
      absurd (none-some c (sym (ap (λ (cs : List Claimed). slice_get cs k) (chain_is s stands ∙ ap (chain_of n (drop 6 (stretches d.maps.space.present))) (none_by d.maps.maps none))) ∙ is))

-- where there is no directory, or no such block

pub past_blocks : (m : Meta) (n : ℕ) (d : DirectoryValue) (i : ℕ) (batch : List AfterImage) → directory_of m n ≡ Some d → length d.names.blocks ≤ i → HasBlock m batch (record { ino = n; index = i })
past_blocks m n d i batch there past = λ s stands j x is lt.
    let got = placed_get [] d.maps.space.present d.names.blocks i x (sym (ap (λ (bs : List DirectoryBlock). slice_get bs i) (blocks_here m s stands n (Some d) there)) ∙ is) in
    absurd (none-some x.entries (sym (slice_get_past d.names.blocks i past) ∙ got))

pub no_directory : (m : Meta) (n i : ℕ) (batch : List AfterImage) → directory_of m n ≡ None → HasBlock m batch (record { ino = n; index = i })
no_directory m n i batch none = λ s stands j x is lt. absurd (none-some x (sym (ap (λ (bs : List DirectoryBlock). slice_get bs i) (blocks_here m s stands n None none)) ∙ is))

pub no_chain : (m : Meta) (n : ℕ) (batch : List AfterImage) → directory_of m n ≡ None → HasMaps m batch n
no_chain m n batch none = λ s stands k j c is lt.
    let nothing = nothing_here m s stands n none in
    let settled : settled_at s.layout n ≡ [] = (λ i. pages_from 0 (blocks_here m s stands n None none i) ++ (nothing.space i).settled) in
    let maps : settled_maps s.layout n ≡ [] = (λ i. take (maps_for (settled i)) (maps_here m s stands n None none i)) in
    let chain : chain_at s.layout n ≡ [] = (λ i. chain_of n (drop 6 (stretches (settled_at s.layout n))) (maps i)) in
    absurd (none-some c (sym (ap (λ (cs : List Claimed). slice_get cs k) chain) ∙ is))

-- ---- the extents of a map block, one after the other

pub get_dropped : {X : Type 0} (n : ℕ) (xs : List X) (i : ℕ) → slice_get (drop n xs) i ≡ slice_get xs (n + i)
get_dropped zero xs i = let same : i ≡ 0 + i = omega arith in ap (slice_get xs) same
get_dropped (suc n) [] i = refl
get_dropped (suc n) (x ∷ xs) i = let same : suc (n + i) ≡ suc n + i = omega arith in get_dropped n xs i ∙ ap (slice_get (x ∷ xs)) same

pub take_next : (xs ys : List Extent) (i : ℕ) (x : Extent) → i < length xs → slice_get ys i ≡ Some x → take i xs ≡ take i ys → take (i + 1) (set xs i x) ≡ take (i + 1) ys
take_next [] ys i x within got same = absurd (omega (arith, within))
take_next (a ∷ xs) [] i x within got same = absurd (none-some x got)
take_next (a ∷ xs) (b ∷ ys) zero x within got same = ap (λ (y : Extent). y ∷ []) (sym (same_Some b x got))
take_next (a ∷ xs) (b ∷ ys) (suc i) x within got same =
    let next : suc (i + 1) ≡ suc i + 1 = omega arith in
    let head : a ≡ b = ap (λ (zs : List Extent). get_or zs 0 a) same in
    let tail = take_next xs ys i x (omega (arith, within)) got (ap (λ (zs : List Extent). drop 1 zs) same) in
    ap (λ (k : ℕ). take k (a ∷ set xs i x)) (sym next) ∙ (λ k. head k ∷ tail k) ∙ ap (λ (k : ℕ). take k (b ∷ ys)) next
