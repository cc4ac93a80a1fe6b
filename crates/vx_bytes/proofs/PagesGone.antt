-- What becomes of the sectors of a file when pages go or settle.
use Rattle.std.proofs.Common.{◌≡◌, ◌+◌, ◌/◌, ◌%◌, ◌≤◌, ◌<◌, ℕ, Bool, true, false, cond, not, ◌&&◌, List, [], ◌∷◌, refl, sym, ◌∙◌, ap, inl, inr, arith}
use Rattle.std.specs.Prelude.{Option, Some, None, ◌==◌, filter}
use Rattle.std.proofs.lemmas.Bool.{cases_Bool, eqb-true, ne_eqb}
use Rattle.vx_base.specs.declared.kind.Kind.{Kind}
use Rattle.vx_base.specs.declared.kind.Kind.TheVariants.{Data, Reserved}
use Rattle.vx_extents.specs.Extents.{Mapped, mapped_at}
use Rattle.vx_space.specs.Leaving.{pages_but, is_reserved, lasts, lasting}
use Rattle.vx_space.specs.Laws.{AreRising}
use Rattle.vx_bytes.specs.Places.{half_of, sectors_of}

-- ---- pages whose numbers pass a test go

kept_by : (goes : ℕ → Bool) (m : Mapped) (ms : List Mapped) (q : ℕ) (t u : Bool) → goes m.page ≡ t → (m.page == q) ≡ u → mapped_at (pages_but goes ms) q ≡ cond (goes q) None (mapped_at ms q)
    → mapped_at (cond (not t) (m ∷ pages_but goes ms) (pages_but goes ms)) q ≡ cond (goes q) None (cond u (Some (m.block, m.kind)) (mapped_at ms q))
kept_by goes m ms q true true is at rest = (let here : goes q ≡ true = ap goes (sym (eqb-true m.page q at)) ∙ is in rest ∙ rw here refl)
kept_by goes m ms q true false is at rest = rest
kept_by goes m ms q false true is at rest = (let here : goes q ≡ false = ap goes (sym (eqb-true m.page q at)) ∙ is in rw (at, here) refl)
kept_by goes m ms q false false is at rest = rw at rest

pub kept_at : (goes : ℕ → Bool) (pages : List Mapped) (q : ℕ) → mapped_at (pages_but goes pages) q ≡ cond (goes q) None (mapped_at pages q)
kept_at goes [] q = elim (cases_Bool (goes q)) [ inl on ↦ rw on refl | inr off ↦ rw off refl ]
kept_at goes (m ∷ ms) q = kept_by goes m ms q (goes m.page) (m.page == q) refl refl (kept_at goes ms q)

-- a sector of a page that stays is as it was
pub kept_sector : (goes : ℕ → Bool) (pages : List Mapped) (p : ℕ) → goes (p / 2) ≡ false → sectors_of (pages_but goes pages) p ≡ sectors_of pages p
unfolding sectors_of
kept_sector goes pages p stays = ap (λ (o : Option (ℕ × Kind)). half_of o (p % 2)) (kept_at goes pages (p / 2) ∙ rw stays refl)

-- what is left was there
pub fewer_sectors : (goes : ℕ → Bool) (pages : List Mapped) (p u : ℕ) → sectors_of (pages_but goes pages) p ≡ Some u → sectors_of pages p ≡ Some u
unfolding sectors_of
fewer_sectors goes pages p u is = elim (cases_Bool (goes (p / 2))) [
  | inl on ↦
      let gone : mapped_at (pages_but goes pages) (p / 2) ≡ None = kept_at goes pages (p / 2) ∙ rw on refl in
      let none : half_of (mapped_at (pages_but goes pages) (p / 2)) (p % 2) ≡ None = ap (λ (o : Option (ℕ × Kind)). half_of o (p % 2)) gone in
      (let wrong : ◌≡◌ {A = Option ℕ} None (Some u) = sym none ∙ is in absurd cc)
  | inr off ↦ (let there : mapped_at (pages_but goes pages) (p / 2) ≡ mapped_at pages (p / 2) = kept_at goes pages (p / 2) ∙ rw off refl in ap (λ (o : Option (ℕ × Kind)). half_of o (p % 2)) (sym there) ∙ is)
]

-- ---- reserved pages of a file with noreserve don't settle

none_below : (test : Mapped → Bool) (from : ℕ) (pages : List Mapped) (q : ℕ) → AreRising from pages → q < from → mapped_at (filter test pages) q ≡ None
none_below test from [] q rising lt = refl
none_below test from (m ∷ ms) q rising lt =
    let low : from ≤ m.page = rising.0 in
    let rest : mapped_at (filter test ms) q ≡ None = none_below test (m.page + 1) ms q rising.2 (omega (arith, low, lt)) in
    let other : (m.page == q) ≡ false = ne_eqb m.page q (λ e. absurd (omega (arith, e, low, lt))) in
    elim (cases_Bool (test m)) [ inl on ↦ rw (on, other) rest | inr off ↦ rw off rest ]

reserved_by : (kind : Kind) (flag : Bool) → not (flag && is_reserved kind) ≡ false → kind ≡ Reserved
reserved_by Data true off = absurd cc
reserved_by Data false off = absurd cc
reserved_by Reserved flag off = refl

half_reserved : (m : Mapped) (i : ℕ) → m.kind ≡ Reserved → half_of (Some (m.block, m.kind)) i ≡ None
half_reserved m i is = ap (λ (k : Kind). half_of (Some (m.block, k)) i) is

lasting_half : (noreserve : Bool) (from : ℕ) (pages : List Mapped) (q i : ℕ) → AreRising from pages → half_of (mapped_at (lasting noreserve pages) q) i ≡ half_of (mapped_at pages q) i
lasting_half noreserve from [] q i rising = refl
lasting_half noreserve from (m ∷ ms) q i rising =
    let rest : half_of (mapped_at (lasting noreserve ms) q) i ≡ half_of (mapped_at ms q) i = lasting_half noreserve (m.page + 1) ms q i rising.2 in
    elim (cases_Bool (lasts noreserve m)) [
      | inl on ↦ rw on (elim (cases_Bool (m.page == q)) [ inl here ↦ rw here refl | inr other ↦ rw other rest ])
      | inr off ↦ rw off (elim (cases_Bool (m.page == q)) [
        | inl here ↦
            let none : mapped_at (lasting noreserve ms) q ≡ None = none_below (lasts noreserve) (m.page + 1) ms q rising.2 (let e : m.page ≡ q = eqb-true m.page q here in omega (arith, e)) in
            rw here (ap (λ (o : Option (ℕ × Kind)). half_of o i) none ∙ sym (half_reserved m i (reserved_by m.kind noreserve off)))
        | inr other ↦ rw other rest
      ])
    ]

pub lasting_sectors : (noreserve : Bool) (pages : List Mapped) → AreRising 0 pages → sectors_of (lasting noreserve pages) ≡ sectors_of pages
unfolding sectors_of
lasting_sectors noreserve pages rising i p = lasting_half noreserve 0 pages (p / 2) (p % 2) rising i
