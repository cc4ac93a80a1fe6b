-- What an image has of a file, byte by byte.
use Rattle.std.proofs.Common.{◌≡◌, ◌+◌, ◌-◌, ◌*◌, ◌/◌, ◌%◌, ◌≤◌, ◌<◌, ℕ, zero, suc, List, [], ◌++◌, length, get_or, replicate, refl, sym, ◌∙◌, ap, inl, inr, arith, length-append, lit<}
use Rattle.std.specs.Prelude.{Option, Some, None}
use Rattle.std.specs.List.{flat_map}
use Rattle.std.proofs.lemmas.Bool.{cases_lt}
use Rattle.std.proofs.lemmas.List.{get_or_append_left, get_or-append_right, get_or-take, get_or-replicate, length-take, length-replicate}
use Rattle.std.proofs.lemmas.Grind.{div_ceil_times}
use Rattle.vx_base.specs.declared.kind.Kind.{Kind}
use Rattle.vx_base.specs.declared.kind.Kind.TheVariants.{Data, Reserved}
use Rattle.vx_layout.specs.Places.{block_sector}
use Rattle.vx_extents.specs.Extents.{Mapped, mapped_at}
use Rattle.vx_model.specs.Reads.{pages_of, page_bytes, bytes_of}
use Rattle.vx_model.specs.Layout.{Layout, volume}
use Rattle.vx_sound.specs.FirstFault.{numbers}
use Rattle.vx_sound.specs.Said.{block_bytes}
use Rattle.vx_bytes.specs.Standings.{part_of, within}
use Rattle.vx_bytes.specs.Places.{half_of, sectors_of, byte_in}

-- so many lists of 1024 bytes, one after another
module _ (f : ℕ → List ℕ) (each : (q : ℕ) → length (f q) ≡ 1024) where
  flat_long : (from n : ℕ) → length (flat_map f (numbers from n)) ≡ 1024 * n
  flat_long from zero = refl
  flat_long from (suc n) =
      let all = length-append (f from) (flat_map f (numbers (suc from) n)) in
      let first = each from in
      let rest = flat_long (suc from) n in
      omega (arith, all, first, rest)

  flat_byte : (from n i : ℕ) → i < 1024 * n → get_or (flat_map f (numbers from n)) i 0 ≡ get_or (f (from + i / 1024)) (i % 1024) 0
  flat_byte from zero i lt = absurd (omega (arith, lt))
  flat_byte from (suc n) i lt = elim (cases_lt i 1024) [
    | inl low ↦
        let first = each from in
        let page : from ≡ from + i / 1024 = omega (arith, low) in
        let at : i ≡ i % 1024 = omega (arith, low) in
        get_or_append_left (f from) (flat_map f (numbers (suc from) n)) 0 i (omega (arith, first, low)) ∙ (λ x. get_or (f (page x)) (at x) 0)
    | inr high ↦
        let rest = flat_byte (suc from) n (i - 1024) (omega (arith, lt, high)) in
        let page : suc from + (i - 1024) / 1024 ≡ from + i / 1024 = omega (arith, high) in
        let at : (i - 1024) % 1024 ≡ i % 1024 = omega (arith, high) in
        get_or-append_right (f from) (flat_map f (numbers (suc from) n)) 1024 i 0 (each from) high ∙ rest ∙ (λ x. get_or (f (page x)) (at x) 0)
  ]

abbrev blank : List ℕ
blank = replicate 1024 0

zeros_byte : (i : ℕ) → i < 1024 → get_or blank i 0 ≡ 0
zeros_byte i lt = get_or-replicate 1024 i 0 0 lt

zeros_long : length blank ≡ 1024
zeros_long = (let zero_byte : ℕ = 0 in length-replicate 1024 zero_byte)

-- the image has 512 bytes in each sector of the pages
abbrev pub AreWhole : (ℕ → Option ℕ) → (ℕ → List ℕ) → Type 0
AreWhole sectors image = (p s : ℕ) → sectors p ≡ Some s → length (image s) ≡ 512

module _ (l : Layout) (image : ℕ → List ℕ) where
  abbrev two : ℕ → List ℕ
  two b = block_bytes (volume l) image b

  first_at : (b : ℕ) → block_sector 2 b + 0 ≡ block_sector 2 b
  first_at b = omega arith

  block_long : (b : ℕ) → length (image (block_sector 2 b + 0)) ≡ 512 → length (image (block_sector 2 b + 1)) ≡ 512 → length (two b) ≡ 1024
  block_long b x y =
      let all = length-append (image (block_sector 2 b + 0)) (image (block_sector 2 b + 1) ++ []) in
      let rest = length-append (image (block_sector 2 b + 1)) [] in
      omega (arith, all, rest, x, y)

  block_byte : (b i : ℕ) → length (image (block_sector 2 b + 0)) ≡ 512 → length (image (block_sector 2 b + 1)) ≡ 512 → i < 1024 → get_or (two b) i 0 ≡ get_or (image (block_sector 2 b + i / 512)) (i % 512) 0
  block_byte b i x y lt = elim (cases_lt i 512) [
    | inl low ↦
        let half : 0 ≡ i / 512 = omega (arith, low) in
        let at : i ≡ i % 512 = omega (arith, low) in
        get_or_append_left (image (block_sector 2 b + 0)) (image (block_sector 2 b + 1) ++ []) 0 i (omega (arith, x, low)) ∙ (λ z. get_or (image (block_sector 2 b + half z)) (at z) 0)
    | inr high ↦
        let half : 1 ≡ i / 512 = omega (arith, high, lt) in
        let at : i - 512 ≡ i % 512 = omega (arith, high, lt) in
        get_or-append_right (image (block_sector 2 b + 0)) (image (block_sector 2 b + 1) ++ []) 512 i 0 x high
        ∙ get_or_append_left (image (block_sector 2 b + 1)) [] 0 (i - 512) (omega (arith, y, high, lt)) ∙ (λ z. get_or (image (block_sector 2 b + half z)) (at z) 0)
  ]

  module _ (pages : List Mapped) (whole : AreWhole (sectors_of pages) image) where
    half_whole : (q i : ℕ) (place : Option (ℕ × Kind)) (b : ℕ) → i < 2 → mapped_at pages q ≡ place → place ≡ Some (b, Data) → length (image (block_sector 2 b + i)) ≡ 512
    unfolding sectors_of
    half_whole q i place b lt at is =
        let page : (2 * q + i) / 2 ≡ q = omega (arith, lt) in
        let side : (2 * q + i) % 2 ≡ i = omega (arith, lt) in
        let here : half_of (mapped_at pages ((2 * q + i) / 2)) ((2 * q + i) % 2) ≡ Some (block_sector 2 b + i) = (λ z. half_of (mapped_at pages (page z)) (side z)) ∙ ap (λ (p : Option (ℕ × Kind)). half_of p i) (at ∙ is) in
        whole (2 * q + i) (block_sector 2 b + i) here

    page_long_by : (q : ℕ) (place : Option (ℕ × Kind)) → mapped_at pages q ≡ place → length (page_bytes two place) ≡ 1024
    page_long_by q None at = zeros_long
    page_long_by q (Some (b, Data)) at = block_long b (half_whole q 0 _ b (lit< tt) at refl) (half_whole q 1 _ b (lit< tt) at refl)
    page_long_by q (Some (b, Reserved)) at = zeros_long

    page_byte_by : (q i : ℕ) (place : Option (ℕ × Kind)) → mapped_at pages q ≡ place → i < 1024 → get_or (page_bytes two place) i 0 ≡ byte_in image (half_of place (i / 512)) (i % 512)
    page_byte_by q i None at lt = zeros_byte i lt
    page_byte_by q i (Some (b, Data)) at lt = block_byte b i (half_whole q 0 _ b (lit< tt) at refl) (half_whole q 1 _ b (lit< tt) at refl) lt
    page_byte_by q i (Some (b, Reserved)) at lt = zeros_byte i lt

    abbrev page : ℕ → List ℕ
    page q = page_bytes two (mapped_at pages q)

    enough : (size : ℕ) → size ≤ 1024 * pages_of size
    enough size = (let some = (div_ceil_times size 1024 (lit< tt)).0 in omega (arith, some))

    -- a file's bytes are as many as its size says
    pub bytes_long : (size : ℕ) → length (bytes_of two pages size) ≡ size
    unfolding bytes_of
    bytes_long size =
        let all = flat_long page (λ q. page_long_by q (mapped_at pages q) refl) 0 (pages_of size) in
        let cut = length-take size (flat_map page (numbers 0 (pages_of size))) in
        let some = enough size in
        omega (arith, all, cut, some)

    -- and each is that of the image at its sector
    pub bytes_read : (size o : ℕ) → o < size → get_or (bytes_of two pages size) o 0 ≡ byte_in image (sectors_of pages (part_of o)) (within o)
    unfolding bytes_of sectors_of part_of within
    bytes_read size o lt =
        let some = enough size in
        let half : o / 512 / 2 ≡ o / 1024 = omega arith in
        let side : (o / 512) % 2 ≡ (o % 1024) / 512 = omega arith in
        let at : (o % 1024) % 512 ≡ o % 512 = omega arith in
        let first : 0 + o / 1024 ≡ o / 1024 = omega arith in
        get_or-take size (flat_map page (numbers 0 (pages_of size))) o 0 lt
        ∙ flat_byte page (λ q. page_long_by q (mapped_at pages q) refl) 0 (pages_of size) o (omega (arith, lt, some)) ∙ ap (λ (q : ℕ). get_or (page q) (o % 1024) 0) first
        ∙ page_byte_by (o / 1024) (o % 1024) (mapped_at pages (o / 1024)) refl (omega arith)
        ∙ (λ z. byte_in image (half_of (mapped_at pages (sym half z)) (sym side z)) (at z))
