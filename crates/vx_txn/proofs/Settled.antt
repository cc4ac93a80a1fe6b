-- What the device says of a directory's blocks, by what is kept in memory.
use Rattle.std.proofs.Common.{◌≡◌, ℕ, suc, ◌+◌, ◌≤◌, List, [], ◌∷◌, ◌++◌, length, take, Some, refl, sym, ◌∙◌, ap, arith, inl, inr, append-nil}
use Rattle.std.proofs.lemmas.Bool.{cases_Bool}
use Rattle.std.proofs.lemmas.Bool.Decides.{nat_tests}
use Rattle.std.proofs.lemmas.List.{take_all}
use Rattle.vx_dir.specs.Sizes.{Entries}
use Rattle.vx_extents.specs.Extents.{Mapped, extent_count, extents_after, follows}
use Rattle.vx_model.specs.Layout.{DirectoryBlock, blocks_at, block_numbers, pages_from, settled_at, settled_maps}
use Rattle.vx_model.specs.State.{State}
use Rattle.vx_space.specs.Space.{Space, maps_for, page_blocks}
use Rattle.vx_txn.specs.Directories.{DirectoryValue, placed, blocks_in}
use Rattle.vx_txn.specs.Metas.{directory_of, Stands}
use Rattle.vx_txn.specs.declared.meta.Meta.{Meta}
use Rattle.vx_txn.proofs.StateLaws.{directory_here, blocks_here, maps_here}

-- ---- pages

pub page_blocks_from : (k : ℕ) (bs : List DirectoryBlock) → page_blocks (pages_from k bs) ≡ block_numbers bs
page_blocks_from k [] = refl
page_blocks_from k (d ∷ bs) = ap (λ (x : List ℕ). d.block ∷ x) (page_blocks_from (k + 1) bs)

pub length_pages : (k : ℕ) (bs : List DirectoryBlock) → length (pages_from k bs) ≡ length bs
length_pages k [] = refl
length_pages k (d ∷ bs) = ap (λ (n : ℕ). suc n) (length_pages (k + 1) bs)

pub length_placed : (pages : List Mapped) (blocks : List Entries) → length pages ≡ length blocks → length (placed pages blocks) ≡ length blocks
length_placed [] [] same = refl
length_placed [] (es ∷ blocks) same = absurd (omega (arith, same))
length_placed (m ∷ pages) [] same = refl
length_placed (m ∷ pages) (es ∷ blocks) same = ap (λ (n : ℕ). suc n) (length_placed pages blocks (omega (arith, same)))

-- ---- few extents need one map block at most

after_few : (m : Mapped) (pages : List Mapped) → length (extents_after m pages) ≤ length pages
after_few m [] = omega arith
after_few m (n ∷ pages) =
    let rest = after_few n pages in
    elim (cases_Bool (follows m n)) [
      | inl hit ↦ rw hit (omega arith)
      | inr miss ↦ rw miss (omega arith)
    ]

pub extents_few : (pages : List Mapped) → extent_count pages ≤ length pages
extents_few [] = omega arith
extents_few (m ∷ pages) = let rest = after_few m pages in omega arith

pub one_map : (pages : List Mapped) → length pages ≤ 64 → maps_for pages ≤ 1
one_map pages few = let most = extents_few pages in grind (arith, nat_tests)

-- ---- of a directory

module _ (m : Meta) (s : State) (is : Stands m s) (n : ℕ) (d : DirectoryValue) (there : directory_of m n ≡ Some d) where
  pub settled_here : settled_at s.layout n ≡ d.maps.space.present
  settled_here =
      let h = directory_here m s is n d there in
      ap (λ (bs : List DirectoryBlock). pages_from 0 bs ++ (s.layout.files n).settled) (blocks_here m s is n (Some d) there)
      ∙ ap (λ (x : Space). pages_from 0 (blocks_in (Some d)) ++ x.settled) h.is.space
      ∙ append-nil (pages_from 0 (blocks_in (Some d))) ∙ sym h.shape.pages

  pub pages_here : pages_from 0 (blocks_at s.layout n) ≡ d.maps.space.present
  pages_here = ap (pages_from 0) (blocks_here m s is n (Some d) there) ∙ sym (directory_here m s is n d there).shape.pages

  pub needed_here : length d.maps.maps ≡ maps_for d.maps.space.present
  needed_here = ap length (sym (maps_here m s is n (Some d) there)) ∙ (directory_here m s is n d there).is.maps ∙ ap maps_for pages_here

  pub maps_settled : settled_maps s.layout n ≡ d.maps.maps
  maps_settled =
      ap (λ (xs : List ℕ). take (maps_for (settled_at s.layout n)) xs) (maps_here m s is n (Some d) there)
      ∙ ap (λ (k : ℕ). take k d.maps.maps) (ap maps_for settled_here ∙ sym needed_here) ∙ take_all (length d.maps.maps) d.maps.maps (omega arith)

  pub blocks_few : length d.maps.space.present ≤ 64
  blocks_few =
      let h = directory_here m s is n d there in
      let most : length (blocks_at s.layout n) ≤ s.layout.directory_limit = h.is.few in
      let limit : s.layout.directory_limit ≡ 64 = is.is.limit in
      let count : length (blocks_at s.layout n) ≡ length d.maps.space.present = sym (length_pages 0 (blocks_at s.layout n)) ∙ ap length pages_here in
      omega arith

  pub maps_few : length d.maps.maps ≤ 1
  maps_few = let one = one_map d.maps.space.present blocks_few in let count = needed_here in omega arith

  pub blocks_are : page_blocks d.maps.space.present ≡ block_numbers (blocks_at s.layout n)
  blocks_are = ap page_blocks (sym pages_here) ∙ page_blocks_from 0 (blocks_at s.layout n)
