-- What a write makes of each page, for a file without a fixed extent size.
use Rattle.std.proofs.Common.{◌≡◌, ◌≢◌, ℕ, zero, suc, ◌+◌, ◌<◌, Bool, true, false, ◌&&◌, cond, List, [], ◌∷◌, Option, Some, None, Ok, inl, inr, refl, sym, ◌∙◌, ap, subst, arith}
use Rattle.std.specs.Prelude.{◌==◌, not, nat_lt}
use Rattle.std.specs.Option.{option_map}
use Rattle.std.proofs.lemmas.Bool.{cases_eq, eqb-true, eq-eqb, ne_eqb, ltb-true}
use Rattle.std.proofs.lemmas.Option.{same_Some, none-some}
use Rattle.vx_base.specs.declared.kind.Kind.{Kind}
use Rattle.vx_base.specs.declared.kind.Kind.TheVariants.{Data}
use Rattle.vx_base.specs.declared.refusal.Refusal.TheVariants as no
use Rattle.vx_extents.specs.Extents.{Mapped, mapped_at, with_page}
use Rattle.vx_extents.specs.Uses.{used_pages}
use Rattle.vx_space.specs.Outcome.{Maybe, need}
use Rattle.vx_space.specs.Placement.{page_place}
use Rattle.vx_space.specs.Space.{Space}
use Rattle.vx_space.specs.Placing.{Filling, Request, block_before, first_for, with_block, place_page, is_empty_group, takes_group, place_group, group_length, with_data, place_missing, write_page, each_page, place_chain, place_fill}
use Rattle.vx_space.specs.Laws.{IsWritten}
use Rattle.vx_space.proofs.Chains.{bind_ok, need_ok}
use Rattle.vx_space.proofs.Maps.{chain_pages}

-- ---- lists of pages

added_other : (m : Mapped) (pages : List Mapped) (p : ℕ) → p ≢ m.page → mapped_at (with_page m pages) p ≡ mapped_at pages p
added_other m [] p ne = ap (λ t. cond t (Some (m.block, m.kind)) None) (ne_eqb m.page p (λ e. ne (sym e)))
added_other m (n ∷ pages) p ne = by (nat_lt n.page m.page) (added_other m pages p ne)
  where
    by : (t : Bool) → mapped_at (with_page m pages) p ≡ mapped_at pages p → mapped_at (cond t (n ∷ with_page m pages) (m ∷ n ∷ pages)) p ≡ mapped_at (n ∷ pages) p
    by true rest = ap (cond (n.page == p) (Some (n.block, n.kind))) rest
    by false rest = ap (λ t. cond t (Some (m.block, m.kind)) (mapped_at (n ∷ pages) p)) (ne_eqb m.page p (λ e. ne (sym e)))

added_here : (m : Mapped) (pages : List Mapped) → mapped_at (with_page m pages) m.page ≡ Some (m.block, m.kind)
added_here m [] = ap (λ t. cond t (Some (m.block, m.kind)) None) (eq-eqb m.page m.page refl)
added_here m (n ∷ pages) = by (nat_lt n.page m.page) refl (added_here m pages)
  where
    by : (t : Bool) → nat_lt n.page m.page ≡ t → mapped_at (with_page m pages) m.page ≡ Some (m.block, m.kind) → mapped_at (cond t (n ∷ with_page m pages) (m ∷ n ∷ pages)) m.page ≡ Some (m.block, m.kind)
    by true is rest =
        let low : n.page < m.page = ltb-true n.page m.page is in
        ap (λ t. cond t (Some (n.block, n.kind)) (mapped_at (with_page m pages) m.page)) (ne_eqb n.page m.page (λ e. absurd (omega (arith, low, e)))) ∙ rest
    by false is rest = ap (λ t. cond t (Some (m.block, m.kind)) (mapped_at (n ∷ pages) m.page)) (eq-eqb m.page m.page refl)

used_other : (p : ℕ) (pages : List Mapped) (q : ℕ) → q ≢ p → mapped_at (used_pages p pages) q ≡ mapped_at pages q
used_other p [] q ne = refl
used_other p (m ∷ pages) q ne = by (m.page == p) refl (used_other p pages q ne)
  where
    by : (t : Bool) → (m.page == p) ≡ t → mapped_at (used_pages p pages) q ≡ mapped_at pages q → mapped_at (cond t (record m { kind = Data } ∷ pages) (m ∷ used_pages p pages)) q ≡ mapped_at (m ∷ pages) q
    by true is rest =
        let other : (m.page == q) ≡ false = ne_eqb m.page q (λ e. absurd (ne (sym e ∙ eqb-true m.page p is))) in
        ap (λ t. cond t (Some (m.block, Data)) (mapped_at pages q)) other ∙ sym (ap (λ t. cond t (Some (m.block, m.kind)) (mapped_at pages q)) other)
    by false is rest = ap (cond (m.page == q) (Some (m.block, m.kind))) rest

used_here : (p b : ℕ) (kind : Kind) (pages : List Mapped) → mapped_at pages p ≡ Some (b, kind) → mapped_at (used_pages p pages) p ≡ Some (b, Data)
used_here p b kind [] there = absurd (none-some (b, kind) there)
used_here p b kind (m ∷ pages) there = by (m.page == p) refl there (λ h. used_here p b kind pages h)
  where
    by : (t : Bool) → (m.page == p) ≡ t → cond t (Some (m.block, m.kind)) (mapped_at pages p) ≡ Some (b, kind) → (mapped_at pages p ≡ Some (b, kind) → mapped_at (used_pages p pages) p ≡ Some (b, Data))
        → mapped_at (cond t (record m { kind = Data } ∷ pages) (m ∷ used_pages p pages)) p ≡ Some (b, Data)
    by true is at rest =
        ap (λ t. cond t (Some (m.block, Data)) (mapped_at pages p)) is ∙ ap (λ (x : ℕ × Kind). Some (x.0, Data)) (same_Some (m.block, m.kind) (b, kind) at)
    by false is at rest = ap (λ t. cond t (Some (m.block, m.kind)) (mapped_at (used_pages p pages) p)) is ∙ rest at

-- ---- one page

same_ok : (x y : Filling) → ◌≡◌ {A = Maybe Filling} (Ok x) (Ok y) → x ≡ y
same_ok x y e = cc

one_written : (p : ℕ) (old new : List Mapped) (b : ℕ) → mapped_at new p ≡ Some (b, Data) → ((c : ℕ) (kind : Kind) → mapped_at old p ≡ Some (c, kind) → b ≡ c) → ((q : ℕ) → q ≢ p → mapped_at new q ≡ mapped_at old q) → IsWritten p 1 old new
one_written p old new b here same others = record {
  holds = λ q low high. (let e : p ≡ q = omega (arith, low, high) in (b, ap (mapped_at new) (sym e) ∙ here));
  keeps = λ q c kind low high there.
      let e : p ≡ q = omega (arith, low, high) in
      ap (mapped_at new) (sym e) ∙ here ∙ ap (λ (x : ℕ). Some (x, Data)) (same c kind (ap (mapped_at old) e ∙ there));
  below = λ q lt. others q (λ e. absurd (omega (arith, lt, e)));
  past = λ q le. others q (λ e. absurd (omega (arith, le, e)));
}

module _ (r : Request) (plain : r.attrs.fixed ≡ 0) (p : ℕ) (f g : Filling) where
  missing_written : (o : Option (ℕ × Kind)) → mapped_at f.pages p ≡ o → (placed : Filling) → place_missing r Data p f o ≡ Ok placed → with_data p placed ≡ g → IsWritten p 1 f.pages g.pages
  missing_written None absent placed is done =
      let no_group : takes_group r.attrs f.pages p ≡ false = ap (λ (n : ℕ). not (n == 0) && is_empty_group r.attrs.fixed f.pages p) plain in
      let one : need (place_page r.volume r.first Data p f) (no.NoSpace r.need r.free) ≡ Ok placed =
      sym (ap (λ (t : Bool). cond t (need (place_group r.volume r.attrs p f) (no.NoRun (group_length r.attrs.fixed p) r.longest)) (need (place_page r.volume r.first Data p f) (no.NoSpace r.need r.free))) no_group) ∙ is in
      by_place (page_place r.volume f.free (block_before f.pages p) (first_for f.pages r.first)) (need_ok (place_page r.volume r.first Data p f) _ placed one)
    where
      by_place : (o : Option ℕ) → option_map (with_block Data p f) o ≡ Some placed → IsWritten p 1 f.pages g.pages
      by_place None none = absurd (none-some placed none)
      by_place (Some b) some =
          let m : Mapped = record { page = p; block = b; kind = Data } in
          let pages : g.pages ≡ used_pages p (with_page m f.pages) = ap (λ (x : Filling). x.pages) (sym done) ∙ ap (λ (x : Filling). used_pages p x.pages) (sym (same_Some (with_block Data p f b) placed some)) in
          one_written p f.pages g.pages b
          (ap (λ (ms : List Mapped). mapped_at ms p) pages ∙ used_here p b Data (with_page m f.pages) (added_here m f.pages))
          (λ c kind there. absurd (none-some (c, kind) (sym absent ∙ there)))
          (λ q ne. ap (λ (ms : List Mapped). mapped_at ms q) pages ∙ used_other p (with_page m f.pages) q ne ∙ added_other m f.pages q ne)
  missing_written (Some x) there placed is done =
      let same : f ≡ placed = cc in
      let pages : g.pages ≡ used_pages p f.pages = ap (λ (y : Filling). y.pages) (sym done) ∙ ap (λ (y : Filling). used_pages p y.pages) (sym same) in
      one_written p f.pages g.pages x.0
      (ap (λ (ms : List Mapped). mapped_at ms p) pages ∙ used_here p x.0 x.1 f.pages there)
      (λ c kind is_there. ap (λ (y : ℕ × Kind). y.0) (same_Some x (c, kind) (sym there ∙ is_there)))
      (λ q ne. ap (λ (ms : List Mapped). mapped_at ms q) pages ∙ used_other p f.pages q ne)

  page_written : write_page r p f ≡ Ok g → IsWritten p 1 f.pages g.pages
  page_written is =
      let placed = bind_ok (place_missing r Data p f (mapped_at f.pages p)) (λ x. Ok (with_data p x)) g is in
      missing_written (mapped_at f.pages p) refl placed.0 placed.1 (same_ok (with_data p placed.0) g placed.2)

-- ---- one page after the other

none_written : (from : ℕ) (pages : List Mapped) → IsWritten from 0 pages pages
none_written from pages = record {
  holds = λ q low high. absurd (omega (arith, low, high));
  keeps = λ q c kind low high there. absurd (omega (arith, low, high));
  below = λ q lt. refl;
  past = λ q le. refl;
}

then_written : (from n : ℕ) (a b c : List Mapped) → IsWritten from 1 a b → IsWritten (from + 1) n b c → IsWritten from (suc n) a c
then_written from n a b c first rest = record {
  holds = λ q low high. elim (cases_eq q from) [
    | inl e ↦ (let here = first.holds q low (omega (arith, e)) in (here.0, rest.below q (omega (arith, e)) ∙ here.1))
    | inr ne ↦ rest.holds q (omega (arith, low, ne)) (omega (arith, high))
  ];
  keeps = λ q d kind low high there. elim (cases_eq q from) [
    | inl e ↦ rest.below q (omega (arith, e)) ∙ first.keeps q d kind low (omega (arith, e)) there
    | inr ne ↦ rest.keeps q d kind (omega (arith, low, ne)) (omega (arith, high)) (first.past q (omega (arith, low, ne)) ∙ there)
  ];
  below = λ q lt. rest.below q (omega (arith, lt)) ∙ first.below q lt;
  past = λ q le. rest.past q (omega (arith, le)) ∙ first.past q (omega (arith, le));
}

each_written : (r : Request) → r.attrs.fixed ≡ 0 → (n from : ℕ) (f g : Filling) → each_page (write_page r) n from f ≡ Ok g → IsWritten from n f.pages g.pages
each_written r plain zero from f g is = subst (λ (x : Filling). IsWritten from 0 f.pages x.pages) (same_ok f g is) (none_written from f.pages)
each_written r plain (suc n) from f g is =
    let one = bind_ok (write_page r from f) (each_page (write_page r) n (from + 1)) g is in
    then_written from n f.pages one.0.pages g.pages (page_written r plain from f one.0 one.1) (each_written r plain n (from + 1) one.0 g one.2)

pub fill_written : (r : Request) (x : Space) (from n : ℕ) (f g : Filling) → r.attrs.fixed ≡ 0 → place_fill r x from n f ≡ Ok g → IsWritten from n f.pages g.pages
fill_written r x from n f g plain is =
    let pages = bind_ok (each_page (write_page r) n from f) (place_chain r x) g is in
    subst (λ (ms : List Mapped). IsWritten from n f.pages ms) (sym (chain_pages r x pages.0 g pages.2)) (each_written r plain n from f pages.0 pages.1)
