-- Each kind of event leaves data blocks at their pages, or they wait.
use Rattle.std.proofs.Common.{◌≡◌, ◌⊎◌, ◌≤◌, ℕ, Bool, true, false, cond, not, ◌&&◌, List, [], ◌∷◌, refl, sym, ◌∙◌, ap, subst, inl, inr, arith}
use Rattle.std.specs.Prelude.{Option, Some, None, ◌==◌, nat_lt, filter}
use Rattle.std.proofs.lemmas.Bool.{cases_Bool, cases_eq, eq-eqb, ne_eqb, eqb-true}
use Rattle.std.proofs.lemmas.Bool.Decides.{nat_tests}
use Rattle.vx_base.specs.declared.kind.Kind.{Kind}
use Rattle.vx_base.specs.declared.kind.Kind.TheVariants.{Data, Reserved}
use Rattle.vx_extents.specs.Extents.{Mapped, mapped_at}
use Rattle.vx_model.specs.Images.{among}
use Rattle.vx_model.specs.Layout.{space_at, pended, kept_pending}
use Rattle.vx_space.specs.Space.{page_blocks}
use Rattle.vx_model.specs.Legal.{with_released}
use Rattle.vx_space.specs.Leaving.{pages_but, is_reserved, lasts, lasting}
use Rattle.vx_model.specs.Opened.{pages_gone}
use Rattle.vx_model.specs.State.{State}
use Rattle.vx_space.specs.Laws.{IsPart, AreRising}
use Rattle.vx_bytes.specs.BlockUse.{HasBlock, IsStillUsed, GivesUp}
use Rattle.vx_bytes.proofs.PagesGone.{kept_at}
use Rattle.vx_bytes.proofs.Using.{mapped_among, part_mapped}

abbrev kind_in : Option (ℕ × Kind) → Kind
kind_in None = Reserved
kind_in (Some m) = m.1

pub still_self : (made : ℕ → ℕ) (s : State) (from : ℕ) → ((n : ℕ) → made n ≤ from) → IsStillUsed made s s from
still_self made s from low n page b is = inl (is, low n)

-- an event at that place or later, which makes no file whose settled pages stay
pub still_next : (made made2 : ℕ → ℕ) (was now next : State) (from place : ℕ) → from ≤ place → ((n page b : ℕ) → HasBlock now n page b → HasBlock next n page b → made2 n ≡ made n) → GivesUp now next place → IsStillUsed made was now from → IsStillUsed made2 was next from
still_next made made2 was now next from place le same gives old n page b is = elim (old n page b is) [
  | inl there ↦ elim (gives.pages n page b there.0) [ inl stays ↦ inl (stays, (let e : made2 n ≡ made n = same n page b there.0 stays in omega (arith, e, there.1))) | inr waits ↦ inr (place, waits, le) ]
  | inr waits ↦ elim (gives.waits b waits.0 waits.1) [ inl same ↦ inr (waits.0, same, waits.2) | inr later ↦ inr (place, later, le) ]
]

-- a release up to that prefix or less
pub still_released : (made : ℕ → ℕ) (was now : State) (from upto : ℕ) → upto ≤ from → IsStillUsed made was now from → IsStillUsed made was (with_released now upto) from
still_released made was now from upto le old n page b is = elim (old n page b is) [
  | inl there ↦ inl there
  | inr waits ↦
      let low : upto ≤ waits.0 = (let a : from ≤ waits.0 = waits.2 in omega (arith, a, le)) in
      let late : nat_lt waits.0 upto ≡ false = grind (arith, low, nat_tests) in
      inr (waits.0, ap (kept_pending upto) waits.1 ∙ rw late refl, waits.2)
]

-- an event that changes no settled page and lets nothing more wait: a write, a call of names without files
pub gives_same : (old new : State) (place : ℕ) → ((n : ℕ) → (space_at new.layout n).settled ≡ (space_at old.layout n).settled) → ((b : ℕ) → new.layout.pending b ≡ old.layout.pending b) → GivesUp old new place
gives_same old new place settled pending = record {
  pages = λ n page b is. inl (ap (λ (x : List Mapped). mapped_at x page) (settled n) ∙ is);
  waits = λ b p is. inl (pending b ∙ is);
}

-- nor of the blocks of files, where others may wait for the event
pub gives_waiting : (old new : State) (place : ℕ) → ((n : ℕ) → (space_at new.layout n).settled ≡ (space_at old.layout n).settled) → ((b : ℕ) → (new.layout.pending b ≡ old.layout.pending b) ⊎ (new.layout.pending b ≡ Some place)) → GivesUp old new place
gives_waiting old new place settled pending = record {
  pages = λ n page b is. inl (ap (λ (x : List Mapped). mapped_at x page) (settled n) ∙ is);
  waits = λ b p is. elim (pending b) [ inl same ↦ inl (same ∙ is) | inr later ↦ inr later ];
}

pub pended_cases : (place : ℕ) (blocks : List ℕ) (pending : ℕ → Option ℕ) (b p : ℕ) → pending b ≡ Some p → (pended place blocks pending b ≡ Some p) ⊎ (pended place blocks pending b ≡ Some place)
pended_cases place blocks pending b p is = elim (cases_Bool (among blocks b)) [ inl on ↦ inr (rw on refl) | inr off ↦ inl (rw off is) ]

-- pages that are filtered by their numbers, where one goes
filtered_at : (goes : ℕ → Bool) (pages : List Mapped) (q b : ℕ) → goes q ≡ true → mapped_at pages q ≡ Some (b, Data) → mapped_at (filter (λ (m : Mapped). goes m.page) pages) q ≡ Some (b, Data)
filtered_at goes [] q b on is = absurd cc
filtered_at goes (m ∷ ms) q b on is = elim (cases_Bool (m.page == q)) [
  | inl here ↦
      let stays : goes m.page ≡ true = ap goes (eqb-true m.page q here) ∙ on in
      rw (stays, here) (sym (ap (λ (t : Bool). cond t (Some (m.block, m.kind)) (mapped_at ms q)) here) ∙ is)
  | inr other ↦
      let rest : mapped_at (filter (λ (m : Mapped). goes m.page) ms) q ≡ Some (b, Data) = filtered_at goes ms q b on (sym (ap (λ (t : Bool). cond t (Some (m.block, m.kind)) (mapped_at ms q)) other) ∙ is) in
      elim (cases_Bool (goes m.page)) [ inl in_it ↦ rw (in_it, other) rest | inr out ↦ rw out rest ]
]

-- a cut, and a close that gives reserved pages up
pub gives_gone : (s : State) (new : State) (place ino : ℕ) (goes : ℕ → Bool) → ((n : ℕ) → (space_at new.layout n).settled ≡ (space_at (pages_gone s.layout place ino goes) n).settled) → ((b : ℕ) → new.layout.pending b ≡ (pages_gone s.layout place ino goes).pending b) → GivesUp s new place
gives_gone s new place ino goes settled pending = record {
  pages = λ n page b is. elim (cases_eq n ino) [
    | inl here ↦
        let x : List Mapped = (space_at s.layout ino).settled in
        let mine : mapped_at x page ≡ Some (b, Data) = subst (λ (k : ℕ). mapped_at (space_at s.layout k).settled page ≡ Some (b, Data)) here is in
        let left : (space_at new.layout n).settled ≡ pages_but goes x = settled n ∙ rw (eq-eqb n ino here) refl in
        elim (cases_Bool (goes page)) [
          | inl on ↦
              let waits : among (page_blocks (filter (λ (m : Mapped). goes m.page) x)) b ≡ true = mapped_among (filter (λ (m : Mapped). goes m.page) x) page b Data (filtered_at goes x page b on mine) in
              inr (pending b ∙ rw waits refl)
          | inr off ↦ inl (ap (λ (l : List Mapped). mapped_at l page) left ∙ kept_at goes x page ∙ rw off mine)
        ]
    | inr other ↦ inl (ap (λ (l : List Mapped). mapped_at l page) (settled n ∙ rw (ne_eqb n ino other) refl) ∙ is)
  ];
  waits = λ b p is. elim (pended_cases place (page_blocks (filter (λ (m : Mapped). goes m.page) (space_at s.layout ino).settled)) s.layout.pending b p is) [ inl same ↦ inl (pending b ∙ same) | inr later ↦ inr (pending b ∙ later) ];
}

-- the whole file goes
pub gives_all : (old new : State) (place ino : ℕ) → ((n : ℕ) → (n ≡ ino → ⊥) → (space_at new.layout n).settled ≡ (space_at old.layout n).settled) →
    ((b : ℕ) → among (page_blocks (space_at old.layout ino).settled) b ≡ true → new.layout.pending b ≡ Some place) → ((b : ℕ) → (new.layout.pending b ≡ old.layout.pending b) ⊎ (new.layout.pending b ≡ Some place)) → GivesUp old new place
gives_all old new place ino others gone pending = record {
  pages = λ n page b is. elim (cases_eq n ino) [
    | inl here ↦ inr (gone b (mapped_among (space_at old.layout ino).settled page b Data (subst (λ (k : ℕ). mapped_at (space_at old.layout k).settled page ≡ Some (b, Data)) here is)))
    | inr other ↦ inl (ap (λ (x : List Mapped). mapped_at x page) (others n other) ∙ is)
  ];
  waits = λ b p is. elim (pending b) [ inl same ↦ inl (same ∙ is) | inr later ↦ inr later ];
}

-- a settle: the settled data pages are among the present ones, which settle
lasts_data : (noreserve : Bool) (m : Mapped) → m.kind ≡ Data → lasts noreserve m ≡ true
lasts_data noreserve m is = by m.kind is noreserve
  where
    by : (k : Kind) → k ≡ Data → (flag : Bool) → not (flag && is_reserved k) ≡ true
    by Data is true = refl
    by Data is false = refl
    by Reserved is flag = absurd cc

lasting_at : (noreserve : Bool) (pages : List Mapped) (q b : ℕ) → mapped_at pages q ≡ Some (b, Data) → mapped_at (lasting noreserve pages) q ≡ Some (b, Data)
lasting_at noreserve [] q b is = absurd cc
lasting_at noreserve (m ∷ ms) q b is = elim (cases_Bool (m.page == q)) [
  | inl here ↦
      let head : ◌≡◌ {A = Option (ℕ × Kind)} (Some (m.block, m.kind)) (Some (b, Data)) = sym (ap (λ (t : Bool). cond t (Some (m.block, m.kind)) (mapped_at ms q)) here) ∙ is in
      let stays : lasts noreserve m ≡ true = lasts_data noreserve m (ap kind_in head) in
      rw (stays, here) head
  | inr other ↦
      let rest : mapped_at (lasting noreserve ms) q ≡ Some (b, Data) = lasting_at noreserve ms q b (sym (ap (λ (t : Bool). cond t (Some (m.block, m.kind)) (mapped_at ms q)) other) ∙ is) in
      elim (cases_Bool (lasts noreserve m)) [ inl on ↦ rw (on, other) rest | inr off ↦ rw off rest ]
]

pub gives_settle : (old new : State) (place ino : ℕ) (noreserve : Bool) → IsPart (space_at old.layout ino).settled (space_at old.layout ino).present → AreRising 0 (space_at old.layout ino).present → (space_at new.layout ino).settled ≡ lasting noreserve (space_at old.layout ino).present →
    ((n : ℕ) → (n ≡ ino → ⊥) → (space_at new.layout n).settled ≡ (space_at old.layout n).settled) → ((b : ℕ) → (new.layout.pending b ≡ old.layout.pending b) ⊎ (new.layout.pending b ≡ Some place)) → GivesUp old new place
gives_settle old new place ino noreserve part rising settled others pending = record {
  pages = λ n page b is. elim (cases_eq n ino) [
    | inl here ↦
        let mine : mapped_at (space_at old.layout ino).settled page ≡ Some (b, Data) = subst (λ (k : ℕ). mapped_at (space_at old.layout k).settled page ≡ Some (b, Data)) here is in
        inl (ap (λ (k : ℕ). mapped_at (space_at new.layout k).settled page) here ∙ ap (λ (x : List Mapped). mapped_at x page) settled ∙ lasting_at noreserve (space_at old.layout ino).present page b (part_mapped 0 (space_at old.layout ino).settled (space_at old.layout ino).present page b part rising mine))
    | inr other ↦ inl (ap (λ (x : List Mapped). mapped_at x page) (others n other) ∙ is)
  ];
  waits = λ b p is. elim (pending b) [ inl same ↦ inl (same ∙ is) | inr later ↦ inr later ];
}
