-- A sector that a file's page has now is no other page's, in any of the three states.
use Rattle.std.proofs.Common.{◌≡◌, ◌≢◌, ◌+◌, ◌/◌, ◌%◌, ◌≤◌, ◌<◌, ℕ, Bool, true, false, cond, ◌||◌, List, [], ◌∷◌, ◌++◌, length, refl, sym, ◌∙◌, ap, subst, inl, inr, arith}
use Rattle.std.specs.Prelude.{Option, Some, None, ◌==◌}
use Rattle.std.proofs.lemmas.Bool.{cases_Bool, eqb-true, eq-eqb, ne_eqb, both_ways}
use Rattle.std.proofs.lemmas.List.Folds.{list_any-append}
use Rattle.vx_base.specs.declared.event.Event.{Event}
use Rattle.vx_base.specs.declared.kind.Kind.{Kind}
use Rattle.vx_base.specs.declared.kind.Kind.TheVariants.{Data, Reserved}
use Rattle.vx_layout.specs.Places.{block_sector}
use Rattle.vx_extents.specs.Extents.{Mapped, mapped_at}
use Rattle.vx_model.specs.Images.{among}
use Rattle.vx_space.specs.Uses.{uses}
use Rattle.vx_model.specs.LaidOut.{Owns, IsOnceUsed}
use Rattle.vx_model.specs.Layout.{Layout, space_at, maps_at, blocks_at, block_numbers, owned}
use Rattle.vx_space.specs.Space.{page_blocks}
use Rattle.vx_space.specs.Laws.{IsPart, AreRising}
use Rattle.vx_model.specs.Legal.{World}
use Rattle.vx_model.specs.State.{State}
use Rattle.vx_bytes.specs.Standings.{IsAlone, IsForeign, IsElsewhere}
use Rattle.vx_bytes.specs.Histories.{state_at, present, last_made}
use Rattle.vx_bytes.specs.Places.{half_of, sectors_of, place_of, placed_in}
use Rattle.vx_bytes.specs.Kept.{Progress, Sinces, memory}
use Rattle.vx_bytes.specs.BlockUse.{IsStillUsed, AreSpaces}

-- ---- which block a sector is of

half_some : (o : Option (ℕ × Kind)) (i s : ℕ) → half_of o i ≡ Some s → (b : ℕ) × (o ≡ Some (b, Data)) × (s ≡ block_sector 2 b + i)
half_some None i s is = absurd cc
half_some (Some (b, Data)) i s is = (let e : block_sector 2 b + i ≡ s = cc in (b, refl, sym e))
half_some (Some (b, Reserved)) i s is = absurd cc

pub sector_block : (pages : List Mapped) (p s : ℕ) → sectors_of pages p ≡ Some s → (b : ℕ) × (mapped_at pages (p / 2) ≡ Some (b, Data)) × (s ≡ block_sector 2 b + p % 2)
unfolding sectors_of
sector_block pages p s is = half_some (mapped_at pages (p / 2)) (p % 2) s is

abbrev first_in : Option (ℕ × Kind) → ℕ
first_in None = 0
first_in (Some m) = m.0

abbrev kind_in : Option (ℕ × Kind) → Kind
kind_in None = Reserved
kind_in (Some m) = m.1

-- ---- pages of one list

absent_below : (from : ℕ) (pages : List Mapped) (q : ℕ) → AreRising from pages → q < from → mapped_at pages q ≡ None
absent_below from [] q rising lt = refl
absent_below from (m ∷ ms) q rising lt =
    let low : from ≤ m.page = rising.0 in
    let other : (m.page == q) ≡ false = ne_eqb m.page q (λ e. absurd (omega (arith, e, low, lt))) in
    rw other (absent_below (m.page + 1) ms q rising.2 (omega (arith, low, lt)))

or_right : (a b : Bool) → b ≡ true → (a || b) ≡ true
or_right a b on = elim (cases_Bool a) [ inl x ↦ rw x refl | inr x ↦ rw (x, on) refl ]

or_left : (a b : Bool) → a ≡ true → (a || b) ≡ true
or_left a b on = rw on refl

pub mapped_among : (pages : List Mapped) (q b : ℕ) (kind : Kind) → mapped_at pages q ≡ Some (b, kind) → among (page_blocks pages) b ≡ true
mapped_among [] q b kind is = absurd cc
mapped_among (m ∷ ms) q b kind is = elim (cases_Bool (m.page == q)) [
  | inl here ↦
      let at : ◌≡◌ {A = Option (ℕ × Kind)} (Some (m.block, m.kind)) (Some (b, kind)) = sym (ap (λ (t : Bool). cond t (Some (m.block, m.kind)) (mapped_at ms q)) here) ∙ is in
      let same : b ≡ m.block = ap first_in (sym at) in
      or_left (b == m.block) (among (page_blocks ms) b) (eq-eqb b m.block same)
  | inr other ↦ or_right (b == m.block) (among (page_blocks ms) b) (mapped_among ms q b kind (sym (ap (λ (t : Bool). cond t (Some (m.block, m.kind)) (mapped_at ms q)) other) ∙ is))
]

used_once : (xs : List ℕ) (b : ℕ) → among xs b ≡ true → 1 ≤ uses xs b
used_once [] b on = absurd (both_ways false refl on)
used_once (x ∷ xs) b on = elim (cases_Bool (b == x)) [
  | inl here ↦ rw here (omega arith)
  | inr other ↦ (let rest : 1 ≤ uses xs b = used_once xs b (sym (ap (λ (t : Bool). t || among xs b) other) ∙ on) in rw other (omega (arith, rest)))
]

uses_append : (xs ys : List ℕ) (b : ℕ) → uses (xs ++ ys) b ≡ uses xs b + uses ys b
uses_append [] ys b = omega arith
uses_append (x ∷ xs) ys b = (let rest : uses (xs ++ ys) b ≡ uses xs b + uses ys b = uses_append xs ys b in elim (cases_Bool (b == x)) [ inl on ↦ rw on (omega (arith, rest)) | inr off ↦ rw off (omega (arith, rest)) ])

one_page : (pages : List Mapped) (q r b : ℕ) (k l : Kind) → uses (page_blocks pages) b ≤ 1 → mapped_at pages q ≡ Some (b, k) → mapped_at pages r ≡ Some (b, l) → q ≡ r
one_page [] q r b k l few a c = absurd cc
one_page (m ∷ ms) q r b k l few a c = elim (cases_Bool (m.page == q)) [
  | inl first ↦ elim (cases_Bool (m.page == r)) [
    | inl second ↦ sym (eqb-true m.page q first) ∙ eqb-true m.page r second
    | inr other ↦ absurd (twice q r k l a c first other)
  ]
  | inr other ↦ elim (cases_Bool (m.page == r)) [
    | inl second ↦ absurd (twice r q l k c a second other)
    | inr neither ↦ one_page ms q r b k l less (at ms q k a other) (at ms r l c neither)
  ]
]
  where
    at : (ms : List Mapped) (p : ℕ) (j : Kind) → mapped_at (m ∷ ms) p ≡ Some (b, j) → (m.page == p) ≡ false → mapped_at ms p ≡ Some (b, j)
    at ms p j is off = sym (ap (λ (t : Bool). cond t (Some (m.block, m.kind)) (mapped_at ms p)) off) ∙ is

    less : uses (page_blocks ms) b ≤ 1
    less = elim (cases_Bool (b == m.block)) [
      | inl on ↦ (let total : cond (b == m.block) 1 0 + uses (page_blocks ms) b ≤ 1 = few in omega (arith, total))
      | inr off ↦ (let total : cond (b == m.block) 1 0 + uses (page_blocks ms) b ≤ 1 = few in omega (arith, total))
    ]

    twice : (p s : ℕ) (j i : Kind) → mapped_at (m ∷ ms) p ≡ Some (b, j) → mapped_at (m ∷ ms) s ≡ Some (b, i) → (m.page == p) ≡ true → (m.page == s) ≡ false → ⊥
    twice p s j i x y on off =
        let head : ◌≡◌ {A = Option (ℕ × Kind)} (Some (m.block, m.kind)) (Some (b, j)) = sym (ap (λ (t : Bool). cond t (Some (m.block, m.kind)) (mapped_at ms p)) on) ∙ x in
        let same : b ≡ m.block = ap first_in (sym head) in
        let rest : 1 ≤ uses (page_blocks ms) b = used_once (page_blocks ms) b (mapped_among ms s b i (at ms s i y off)) in
        let total : cond (b == m.block) 1 0 + uses (page_blocks ms) b ≤ 1 = few in
        let total2 : 1 + uses (page_blocks ms) b ≤ 1 = subst (λ (t : Bool). cond {A = ℕ} t 1 0 + uses (page_blocks ms) b ≤ 1) (eq-eqb b m.block same) total in
        omega (arith, total2, rest)

-- ---- blocks of a state

owns_page : (l : Layout) (n q b : ℕ) (kind : Kind) → mapped_at (space_at l n).present q ≡ Some (b, kind) → Owns l n b
owns_page l n q b kind is =
    let here : among (page_blocks (space_at l n).present) b ≡ true = mapped_among (space_at l n).present q b kind is in
    list_any-append (λ x. b == x) (block_numbers (blocks_at l n)) (page_blocks (space_at l n).present ++ maps_at l n)
    ∙ or_right (among (block_numbers (blocks_at l n)) b) (among (page_blocks (space_at l n).present ++ maps_at l n) b)
    (list_any-append (λ x. b == x) (page_blocks (space_at l n).present) (maps_at l n) ∙ or_left (among (page_blocks (space_at l n).present) b) (among (maps_at l n) b) here)

few_pages : (l : Layout) → IsOnceUsed l → (n b : ℕ) → uses (page_blocks (space_at l n).present) b ≤ 1
few_pages l once n b =
    let all : uses (owned l n) b ≤ 1 = once.apart n b in
    let first = uses_append (block_numbers (blocks_at l n)) (page_blocks (space_at l n).present ++ maps_at l n) b in
    let second = uses_append (page_blocks (space_at l n).present) (maps_at l n) b in
    omega (arith, all, first, second)

-- a settled data page is one now
pub part_mapped : (from : ℕ) (xs ys : List Mapped) (q b : ℕ) → IsPart xs ys → AreRising from ys → mapped_at xs q ≡ Some (b, Data) → mapped_at ys q ≡ Some (b, Data)
part_mapped from [] ys q b part rising is = absurd cc
part_mapped from (m ∷ ms) [] q b part rising is = absurd part
part_mapped from (m ∷ ms) (n ∷ ns) q b (inl both) rising is = elim (cases_Bool (m.page == q)) [
  | inl here ↦
      let head : ◌≡◌ {A = Option (ℕ × Kind)} (Some (m.block, m.kind)) (Some (b, Data)) = sym (ap (λ (t : Bool). cond t (Some (m.block, m.kind)) (mapped_at ms q)) here) ∙ is in
      let block : m.block ≡ b = ap first_in head in
      let kind : m.kind ≡ Data = ap kind_in head in
      let also : (n.page == q) ≡ true = sym (ap (λ (k : ℕ). k == q) both.0.page) ∙ here in
      let same : n.kind ≡ Data = elim both.0.kind [ inl k ↦ sym k ∙ kind | inr reserved ↦ (let wrong : ◌≡◌ {A = Kind} Data Reserved = sym kind ∙ reserved in absurd cc) ] in
      rw also (λ i. Some ((sym both.0.block ∙ block) i, same i))
  | inr other ↦
      let also : (n.page == q) ≡ false = sym (ap (λ (k : ℕ). k == q) both.0.page) ∙ other in
      rw also (part_mapped (n.page + 1) ms ns q b both.1 rising.2 (sym (ap (λ (t : Bool). cond t (Some (m.block, m.kind)) (mapped_at ms q)) other) ∙ is))
]
part_mapped from (m ∷ ms) (n ∷ ns) q b (inr later) rising is =
    let rest : mapped_at ns q ≡ Some (b, Data) = part_mapped (n.page + 1) (m ∷ ms) ns q b later rising.2 is in
    elim (cases_Bool (n.page == q)) [
      | inl here ↦
          let at : n.page ≡ q = eqb-true n.page q here in
          let none : mapped_at ns q ≡ None = absent_below (n.page + 1) ns q rising.2 (omega (arith, at)) in
          (let wrong : ◌≡◌ {A = Option (ℕ × Kind)} None (Some (b, Data)) = sym none ∙ rest in absurd cc)
      | inr other ↦ rw other rest
    ]

module _ (now : State) (once : IsOnceUsed now.layout) (spaces : (n : ℕ) → IsPart (space_at now.layout n).settled (space_at now.layout n).present × AreRising 0 (space_at now.layout n).present) where
  none_waits : (n b place : ℕ) → Owns now.layout n b → now.layout.pending b ≡ Some place → ⊥
  none_waits n b place owns waits = (let wrong : ◌≡◌ {A = Option ℕ} None (Some place) = sym (once.not_pending n b owns) ∙ waits in cc)

  pub alone_now : (n : ℕ) → IsAlone (placed_in now n) (placed_in now n)
  alone_now n p q s x y =
      let a = sector_block (space_at now.layout n).present p s x in
      let c = sector_block (space_at now.layout n).present q s y in
      let block : a.0 ≡ c.0 = omega (arith, a.2, c.2) in
      let half : p % 2 ≡ q % 2 = omega (arith, a.2, c.2) in
      let page : p / 2 ≡ q / 2 = one_page (space_at now.layout n).present (p / 2) (q / 2) c.0 Data Data (few_pages now.layout once n c.0) (subst (λ (b : ℕ). mapped_at (space_at now.layout n).present (p / 2) ≡ Some (b, Data)) block a.1) c.1 in
      omega (arith, half, page)

  pub foreign_now : (n k : ℕ) → n ≢ k → IsForeign (placed_in now n) (placed_in now k)
  foreign_now n k other p q s x y =
      let a = sector_block (space_at now.layout n).present p s x in
      let c = sector_block (space_at now.layout k).present q s y in
      let block : a.0 ≡ c.0 = omega (arith, a.2, c.2) in
      other (once.once n k c.0 (subst (λ (b : ℕ). Owns now.layout n b) block (owns_page now.layout n (p / 2) a.0 Data a.1)) (owns_page now.layout k (q / 2) c.0 Data c.1))

  module _ (made : ℕ → ℕ) (was : State) (from : ℕ) (still : IsStillUsed made was now from) where
    pub alone_was : (n : ℕ) → IsAlone (placed_in now n) (place_of was n).sectors
    alone_was n p q s x y =
        let a = sector_block (space_at now.layout n).present p s x in
        let c = sector_block (space_at was.layout n).settled q s y in
        let block : a.0 ≡ c.0 = omega (arith, a.2, c.2) in
        let half : p % 2 ≡ q % 2 = omega (arith, a.2, c.2) in
        let mine : mapped_at (space_at now.layout n).present (p / 2) ≡ Some (c.0, Data) = subst (λ (b : ℕ). mapped_at (space_at now.layout n).present (p / 2) ≡ Some (b, Data)) block a.1 in
        elim (still n (q / 2) c.0 c.1) [
          | inl settled ↦ (let there : mapped_at (space_at now.layout n).present (q / 2) ≡ Some (c.0, Data) = part_mapped 0 (space_at now.layout n).settled (space_at now.layout n).present (q / 2) c.0 (spaces n).0 (spaces n).1 settled.0 in let page : p / 2 ≡ q / 2 = one_page (space_at now.layout n).present (p / 2) (q / 2) c.0 Data Data (few_pages now.layout once n c.0) mine there in omega (arith, half, page))
          | inr waits ↦ absurd (none_waits n c.0 waits.0 (owns_page now.layout n (p / 2) c.0 Data mine) waits.1)
        ]

    pub foreign_was : (n k : ℕ) → n ≢ k → IsForeign (placed_in now n) (place_of was k).sectors
    foreign_was n k other p q s x y =
        let a = sector_block (space_at now.layout n).present p s x in
        let c = sector_block (space_at was.layout k).settled q s y in
        let block : a.0 ≡ c.0 = omega (arith, a.2, c.2) in
        let mine : mapped_at (space_at now.layout n).present (p / 2) ≡ Some (c.0, Data) = subst (λ (b : ℕ). mapped_at (space_at now.layout n).present (p / 2) ≡ Some (b, Data)) block a.1 in
        elim (still k (q / 2) c.0 c.1) [
          | inl settled ↦ (let there : mapped_at (space_at now.layout k).present (q / 2) ≡ Some (c.0, Data) = part_mapped 0 (space_at now.layout k).settled (space_at now.layout k).present (q / 2) c.0 (spaces k).0 (spaces k).1 settled.0 in other (once.once n k c.0 (owns_page now.layout n (p / 2) c.0 Data mine) (owns_page now.layout k (q / 2) c.0 Data there)))
          | inr waits ↦ none_waits n c.0 waits.0 (owns_page now.layout n (p / 2) c.0 Data mine) waits.1
        ]

    -- where the earlier state has a half page in the sector that it has now, the file was made before
    pub made_before : (n p u : ℕ) → placed_in now n p ≡ Some u → (place_of was n).sectors p ≡ Some u → made n ≤ from
    made_before n p u x y =
        let a = sector_block (space_at now.layout n).present p u x in
        let c = sector_block (space_at was.layout n).settled p u y in
        let block : a.0 ≡ c.0 = omega (arith, a.2, c.2) in
        let mine : mapped_at (space_at now.layout n).present (p / 2) ≡ Some (c.0, Data) = subst (λ (b : ℕ). mapped_at (space_at now.layout n).present (p / 2) ≡ Some (b, Data)) block a.1 in
        elim (still n (p / 2) c.0 c.1) [ inl settled ↦ settled.1 | inr waits ↦ absurd (none_waits n c.0 waits.0 (owns_page now.layout n (p / 2) c.0 Data mine) waits.1) ]

-- a sector that one file has now is none of another's
pub elsewhere_of : (o : World) (h : List Event) (p : Progress) (since : Sinces) (ino n q u : ℕ) → ino ≢ n → IsOnceUsed (present o h).layout → AreSpaces (present o h) →
    IsStillUsed (last_made o h) (state_at o h p.committed) (present o h) p.committed → IsStillUsed (last_made o h) (state_at o h p.closing) (present o h) p.closing → IsStillUsed (last_made o h) (present o h) (present o h) (length h) →
    placed_in (present o h) ino q ≡ Some u → IsElsewhere u (memory o h p since n)
elsewhere_of o h p since ino n q u other once spaces still still_closing still_now here = record {
  placed = λ r at. foreign_now (present o h) once spaces ino n other q r u here at;
  committed = λ r at. foreign_was (present o h) once spaces (last_made o h) (state_at o h p.committed) p.committed still ino n other q r u here at;
  closing = λ r at. foreign_was (present o h) once spaces (last_made o h) (state_at o h p.closing) p.closing still_closing ino n other q r u here at;
  present = λ r at. foreign_was (present o h) once spaces (last_made o h) (present o h) (length h) still_now ino n other q r u here at;
}
