-- The pages of a file's extents, and the bytes that stand in them.
use Rattle.std.proofs.Common.{◌≡◌, ℕ, zero, suc, ◌+◌, ◌*◌, ◌<◌, ◌≤◌, Bool, true, false, cond, List, [], ◌∷◌, ◌++◌, length, Option, Some, inl, refl, ap, ap₂, subst, ◌∙◌, arith, length-append}
use Rattle.std.specs.Prelude.{◌==◌, ◌&&◌, not, bit_and}
use Rattle.std.specs.List.{flat_map, AllByRecursion}
use Rattle.std.proofs.lemmas.List.{length-replicate, length-take-le}
use Rattle.vx_base.specs.declared.kind.Kind.{Kind}
use Rattle.vx_base.specs.declared.kind.Kind.TheVariants.{Data, Reserved}
use Rattle.vx_base.specs.declared.inode.Extent.{Extent}
use Rattle.vx_base.specs.declared.inode.InodeValue.{InodeValue}
use Rattle.vx_layout.specs.Places.{Volume, block_sector}
use Rattle.vx_layout.specs.Supers.{volume_of}
use Rattle.vx_layout.specs.declared.superblock.Super.{Super}
use Rattle.vx_sound.specs.FirstFault.{numbers}
use Rattle.vx_sound.specs.Said.{Image, block_bytes}
use Rattle.vx_sound.specs.Facts.{IsExtentRight, AreInOrder, IsWholeBlock}
use Rattle.vx_extents.specs.Extents.{Mapped, mapped_at, run}
use Rattle.vx_space.specs.Laws.{AreRising, IsPart}
use Rattle.vx_space.specs.Leaving.{lasts, is_reserved}
use Rattle.vx_model.specs.Reads.{extent_pages, pages_of, page_bytes, bytes_of}
use Rattle.vx_model.specs.LaidOut.{BeginsBelow}
use Rattle.vx_model.proofs.Spelled.{all_both, all_more}
use Rattle.vx_said.specs.WholePages.{IsWholePage}

-- ---- pages rise

rising_from : (a b : ℕ) (pages : List Mapped) → b ≤ a → AreRising a pages → AreRising b pages
rising_from a b [] less rises = tt
rising_from a b (m ∷ pages) less rises = let from = rises.0 in (omega (arith, less, from), rises.1, rises.2)

run_rises : (len page block : ℕ) (kind : Kind) (from : ℕ) (rest : List Mapped) → from ≤ page → page + len ≤ 65536 → AreRising (page + len) rest → AreRising from (run len page block kind ++ rest)
run_rises zero page block kind from rest low most rises = rising_from (page + 0) from rest (omega (arith, low)) rises
run_rises (suc n) page block kind from rest low most rises =
    let e : page + suc n ≡ page + 1 + n = omega arith in
    (low, omega (arith, most), run_rises n (page + 1) (block + 1) kind (page + 1) rest (omega arith) (omega (arith, most)) (subst (λ p. AreRising p rest) e rises))

abbrev BeginFrom : ℕ → List Extent → Type 0
BeginFrom from [] = Unit {0}
BeginFrom from (e ∷ es) = from ≤ e.page

pub extents_rise : (w : Volume) (i : InodeValue) (from : ℕ) (es : List Extent) → BeginFrom from es → AllByRecursion (IsExtentRight w i) es → AreInOrder es → AreRising from (flat_map extent_pages es)
extents_rise w i from [] begin each order = tt
extents_rise w i from (e ∷ []) begin each order = run_rises e.len e.page e.start e.kind from [] begin each.0.pages tt
extents_rise w i from (e ∷ f ∷ es) begin each order =
    run_rises e.len e.page e.start e.kind from (flat_map extent_pages (f ∷ es)) begin each.0.pages
    (extents_rise w i (e.page + e.len) (f ∷ es) order.0.later each.1 order.1)

pub begin_from_0 : (es : List Extent) → BeginFrom 0 es
begin_from_0 [] = tt
begin_from_0 (e ∷ es) = omega arith

-- ---- what holds of each page

all_pages : (P : Mapped → Type 0) (es : List Extent) → AllByRecursion (λ (e : Extent). AllByRecursion P (extent_pages e)) es → AllByRecursion P (flat_map extent_pages es)
all_pages P [] all = tt
all_pages P (e ∷ es) all = all_both P (extent_pages e) (flat_map extent_pages es) all.0 (all_pages P es all.1)

run_below : (size len page block : ℕ) (kind : Kind) → (kind ≡ Data → 1024 * (page + len) < size + 1024) → AllByRecursion (BeginsBelow size) (run len page block kind)
run_below size zero page block kind below = tt
run_below size (suc n) page block kind below =
    ((λ is_data. let last = below is_data in omega (arith, last)), run_below size n (page + 1) (block + 1) kind (λ is_data. let last = below is_data in omega (arith, last)))

run_lasts : (noreserve : Bool) (len page block : ℕ) (kind : Kind) → (kind ≡ Reserved → noreserve ≡ false) → AllByRecursion (λ (m : Mapped). lasts noreserve m ≡ true) (run len page block kind)
run_lasts noreserve zero page block kind kept = tt
run_lasts noreserve (suc n) page block kind kept = (by kind noreserve kept, run_lasts noreserve n (page + 1) (block + 1) kind kept)
  where
    by : (k : Kind) (t : Bool) → (k ≡ Reserved → t ≡ false) → not (t && is_reserved k) ≡ true
    by Data true h = refl
    by Data false h = refl
    by Reserved t h = ap (λ (u : Bool). not (u && true)) (h refl)

module _ (v : Super) (i : InodeValue) where
  -- data begin below the file's size
  pub all_below : (es : List Extent) → AllByRecursion (IsExtentRight (volume_of v) i) es → AllByRecursion (BeginsBelow i.inode.size) (flat_map extent_pages es)
  all_below es each = all_pages (BeginsBelow i.inode.size) es
      (all_more (IsExtentRight (volume_of v) i) (λ (e : Extent). AllByRecursion (BeginsBelow i.inode.size) (extent_pages e)) (λ e right. run_below i.inode.size e.len e.page e.start e.kind right.below_size) es each)

  -- a file that keeps no reservation has no reserved page
  pub all_last : (es : List Extent) → AllByRecursion (IsExtentRight (volume_of v) i) es → AllByRecursion (λ (m : Mapped). lasts (not (bit_and i.inode.attrs.flags 8 == 0)) m ≡ true) (flat_map extent_pages es)
  all_last es each = all_pages (λ (m : Mapped). lasts (not (bit_and i.inode.attrs.flags 8 == 0)) m ≡ true) es
      (all_more (IsExtentRight (volume_of v) i) (λ (e : Extent). AllByRecursion (λ (m : Mapped). lasts (not (bit_and i.inode.attrs.flags 8 == 0)) m ≡ true) (extent_pages e))
      (λ e right. run_lasts (not (bit_and i.inode.attrs.flags 8 == 0)) e.len e.page e.start e.kind (λ kind. ap (λ (x : ℕ). not (x == 0)) (right.kept kind))) es each)

pub part_itself : (pages : List Mapped) → IsPart pages pages
part_itself [] = tt
part_itself (m ∷ pages) = inl (record { page = refl; block = refl; kind = inl refl }, part_itself pages)

-- ---- bytes

pieces_length : (c : ℕ) (f : ℕ → List ℕ) (n from : ℕ) → ((j : ℕ) → j < n → length (f (from + j)) ≡ c) → length (flat_map f (numbers from n)) ≡ c * n
pieces_length c f zero from each = omega arith
pieces_length c f (suc n) from each =
    let e : from + 0 ≡ from = omega arith in
    let first : length (f from) ≡ c = subst (λ (x : ℕ). length (f x) ≡ c) e (each 0 (omega arith)) in
    let rest : length (flat_map f (numbers (suc from) n)) ≡ c * n = pieces_length c f n (suc from) (λ j less.
    (let g : from + suc j ≡ suc from + j = omega arith in subst (λ (x : ℕ). length (f x) ≡ c) g (each (suc j) (omega (arith, less))))) in
    length-append (f from) (flat_map f (numbers (suc from) n)) ∙ ap₂ (λ (x y : ℕ). x + y) first rest ∙ more c n
  where
    more : (c n : ℕ) → c + c * n ≡ c * suc n
    more c n = omega arith

module _ (v : Super) (image : Image) where
  abbrev w : Volume
  w = volume_of v

  block_length : (b : ℕ) → IsWholeBlock w image b → length (block_bytes w image b) ≡ 1024
  block_length b whole = pieces_length 512 (λ i. image (block_sector 2 b + i)) 2 0 (λ j less.
      (let e : j ≡ 0 + j = omega arith in subst (λ (i : ℕ). length (image (block_sector 2 b + i)) ≡ 512) e (whole j less)))

  kind_length : (k : Kind) (b : ℕ) → (k ≡ Data → IsWholeBlock w image b) → length (page_bytes (block_bytes w image) (Some (b, k))) ≡ 1024
  kind_length Data b whole = block_length b (whole refl)
  kind_length Reserved b whole = length-replicate {A = ℕ} 1024 0

  first_or : (m : Mapped) (o : Option (ℕ × Kind)) (t : Bool) → IsWholePage w image m → length (page_bytes (block_bytes w image) o) ≡ 1024 → length (page_bytes (block_bytes w image) (cond t (Some (m.block, m.kind)) o)) ≡ 1024
  first_or m o true first rest = kind_length m.kind m.block first
  first_or m o false first rest = rest

  page_length : (pages : List Mapped) (q : ℕ) → AllByRecursion (IsWholePage w image) pages → length (page_bytes (block_bytes w image) (mapped_at pages q)) ≡ 1024
  page_length [] q all = length-replicate {A = ℕ} 1024 0
  page_length (m ∷ pages) q all = first_or m (mapped_at pages q) (m.page == q) all.0 (page_length pages q all.1)

  -- a file is as long as its inode says
  pub bytes_length : (pages : List Mapped) (size : ℕ) → AllByRecursion (IsWholePage w image) pages → length (bytes_of (block_bytes w image) pages size) ≡ size
  unfolding bytes_of
  bytes_length pages size all =
      let long : length (flat_map (λ q. page_bytes (block_bytes w image) (mapped_at pages q)) (numbers 0 (pages_of size))) ≡ 1024 * pages_of size =
      pieces_length 1024 (λ q. page_bytes (block_bytes w image) (mapped_at pages q)) (pages_of size) 0 (λ j less. page_length pages (0 + j) all) in
      length-take-le size _ (omega (arith, long))
