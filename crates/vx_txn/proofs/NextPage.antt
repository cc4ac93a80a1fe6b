-- What a directory's next block is: one page behind the others, and the map blocks that are needed then.
use Rattle.std.proofs.Common.{◌≡◌, ℕ, zero, suc, ◌+◌, ◌-◌, ◌≤◌, Bool, true, false, cond, not, ◌&&◌, List, [], ◌∷◌, ◌++◌, length, Option, Some, None, Ok, Err, refl, sym, ◌∙◌, ap, subst, arith, length-append}
use Rattle.std.specs.Prelude.{◌==◌, nat_lt}
use Rattle.std.specs.Option.{option_map, option_and_then}
use Rattle.std.proofs.lemmas.Bool.{ne_eqb, eq-eqb, lt-ltb}
use Rattle.std.proofs.lemmas.Option.{none-some, same_Some}
use Rattle.vx_base.specs.declared.kind.Kind.{Kind}
use Rattle.vx_base.specs.declared.kind.Kind.TheVariants.{Data}
use Rattle.vx_base.specs.declared.refusal.Refusal.{Refusal}
use Rattle.vx_base.specs.declared.refusal.Refusal.TheVariants as no
use Rattle.vx_dir.specs.Sizes.{Entries}
use Rattle.vx_extents.specs.Extents.{Mapped, mapped_at, with_page}
use Rattle.vx_filemaps.proofs.Pages.{new_used}
use Rattle.vx_layout.specs.Places.{Volume}
use Rattle.vx_model.specs.Layout.{DirectoryBlock, pages_from}
use Rattle.vx_model.specs.Legal.{is_any_time}
use Rattle.vx_space.specs.Outcome.{Maybe, unless, ◌>>=◌, need}
use Rattle.vx_space.specs.Placement.{longest_run, page_place}
use Rattle.vx_space.specs.Placing.{Filling, Request, block_before, first_for, is_empty_group, place_chain, place_fill, place_group, group_length, place_maps, place_missing, with_block, with_data, with_map}
use Rattle.vx_space.specs.Space.{Space, maps_needed}
use Rattle.vx_txn.specs.Directories.{placed}

-- ---- pages behind the others

abbrev pub page_of : ℕ → ℕ → Mapped
page_of p b = record { page = p; block = b; kind = Data }

pub behind_last : (k : ℕ) (bs : List DirectoryBlock) (p b : ℕ) → p ≡ k + length bs → with_page (page_of p b) (pages_from k bs) ≡ pages_from k bs ++ page_of p b ∷ []
behind_last k [] p b at = refl
behind_last k (d ∷ bs) p b at =
    let before : nat_lt k p ≡ true = lt-ltb k p (omega (arith, at)) in
    rw before (ap (λ (x : List Mapped). page_of k d.block ∷ x) (behind_last (k + 1) bs p b (omega (arith, at))))

pub none_behind : (k : ℕ) (bs : List DirectoryBlock) (p : ℕ) → k + length bs ≤ p → mapped_at (pages_from k bs) p ≡ None
none_behind k [] p past = refl
none_behind k (d ∷ bs) p past =
    let other : (k == p) ≡ false = ne_eqb k p (λ same. absurd (omega (arith, past, same))) in
    ap (λ (t : Bool). cond t (Some (d.block, Data)) (mapped_at (pages_from (k + 1) bs) p)) other ∙ none_behind (k + 1) bs p (omega (arith, past))

pub last_there : (k : ℕ) (bs : List DirectoryBlock) (p b : ℕ) → p ≡ k + length bs → mapped_at (pages_from k bs ++ page_of p b ∷ []) p ≡ Some (b, Data)
last_there k [] p b at = ap (λ (t : Bool). cond t (Some (b, Data)) None) (eq-eqb p p refl)
last_there k (d ∷ bs) p b at =
    let other : (k == p) ≡ false = ne_eqb k p (λ same. absurd (omega (arith, at, same))) in
    ap (λ (t : Bool). cond t (Some (d.block, Data)) (mapped_at (pages_from (k + 1) bs ++ page_of p b ∷ []) p)) other ∙ last_there (k + 1) bs p b (omega (arith, at))

pub pages_append : (k : ℕ) (bs : List DirectoryBlock) (d : DirectoryBlock) → pages_from k (bs ++ d ∷ []) ≡ pages_from k bs ++ page_of (k + length bs) d.block ∷ []
pages_append k [] d = let same : k ≡ k + 0 = omega arith in ap (λ (p : ℕ). page_of p d.block ∷ []) same
pages_append k (x ∷ bs) d =
    let same : k + 1 + length bs ≡ k + suc (length bs) = omega arith in
    ap (λ (ms : List Mapped). page_of k x.block ∷ ms) (pages_append (k + 1) bs d ∙ ap (λ (p : ℕ). pages_from (k + 1) bs ++ page_of p d.block ∷ []) same)

pub placed_append : (pages : List Mapped) (blocks : List Entries) (m : Mapped) (es : Entries) → length pages ≡ length blocks
    → placed (pages ++ m ∷ []) (blocks ++ es ∷ []) ≡ placed pages blocks ++ record { block = m.block; entries = es } ∷ []
placed_append [] [] m es same = refl
placed_append [] (x ∷ blocks) m es same = absurd (omega (arith, same))
placed_append (p ∷ pages) [] m es same = absurd (omega (arith, same))
placed_append (p ∷ pages) (x ∷ blocks) m es same = ap (λ (bs : List DirectoryBlock). record { block = p.block; entries = x } ∷ bs) (placed_append pages blocks m es (omega (arith, same)))

-- ---- map blocks

pub record AreMaps (k : ℕ) (f g : Filling) : Type 0 where
  pub pages : g.pages ≡ f.pages
  pub count : length g.maps ≡ length f.maps + k

maps_step : (v : Volume) (k : ℕ) (f g : Filling) (o : Option ℕ) → option_and_then (place_maps v k) (option_map (with_map f) o) ≡ Some g → ((h : Filling) → place_maps v k h ≡ Some g → AreMaps k h g) → AreMaps (suc k) f g
maps_step v k f g None is rest = absurd (none-some g is)
maps_step v k f g (Some b) is rest =
    let more = rest (with_map f b) is in
    let one = length-append f.maps (b ∷ []) in
    let count = more.count in
    record { pages = more.pages; count = omega arith }

maps_are : (v : Volume) (k : ℕ) (f g : Filling) → place_maps v k f ≡ Some g → AreMaps k f g
maps_are v zero f g is = let same : f ≡ g = same_Some f g is in subst (λ (x : Filling). AreMaps 0 f x) same (record { pages = refl; count = omega arith })
maps_are v (suc k) f g is = maps_step v k f g (longest_run v f.free) is (λ h. maps_are v k h g)

-- ---- one page and map blocks

pub record IsNext (n : ℕ) (x : Space) (f g : Filling) : Type 0 where
  pub block : ℕ
  pub pages : g.pages ≡ with_page (page_of n block) f.pages
  pub count : length g.maps ≡ length f.maps + (maps_needed (record x { present = g.pages }) - length f.maps)

abbrev pub IsPlaceRefusal : Refusal → Type 0
IsPlaceRefusal why = is_any_time why ≡ false

module _ (r : Request) (x : Space) where
  chain_ok : (few : Bool) (h g : Filling) (k : ℕ) (o : Option Filling) (full why : Refusal) → place_maps r.volume k h ≡ o → unless few full (need o why) ≡ Ok g → AreMaps k h g
  chain_ok false h g k o full why are is = absurd cc
  chain_ok true h g k None full why are is = absurd cc
  chain_ok true h g k (Some y) full why are is = let same : y ≡ g = cc in maps_are r.volume k h g (are ∙ ap Some same)

  chain_err : (few : Bool) (o : Option Filling) (full why w : Refusal) → IsPlaceRefusal full → IsPlaceRefusal why → unless few full (need o why) ≡ Err w → IsPlaceRefusal w
  chain_err false o full why w a b is = let same : full ≡ w = cc in subst IsPlaceRefusal same a
  chain_err true None full why w a b is = let same : why ≡ w = cc in subst IsPlaceRefusal same b
  chain_err true (Some y) full why w a b is = absurd cc

  module _ (n : ℕ) (f : Filling) (plain : r.attrs.fixed ≡ 0) (absent : mapped_at f.pages n ≡ None) where
    abbrev page_at : Option ℕ
    page_at = page_place r.volume f.free (block_before f.pages n) (first_for f.pages r.first)

    abbrev after_page : Option ℕ → Maybe Filling
    after_page o = ((need (option_map (with_block Data n f) o) (no.NoSpace r.need r.free) >>= (λ placed. Ok (with_data n placed))) >>= (λ h. Ok h)) >>= place_chain r x

    written : place_fill r x n 1 f ≡ after_page page_at
    written =
        let none : not (r.attrs.fixed == 0) ≡ false = ap (λ (k : ℕ). not (k == 0)) plain in
        ap (λ (o : Option (ℕ × Kind)). ((place_missing r Data n f o >>= (λ placed. Ok (with_data n placed))) >>= (λ h. Ok h)) >>= place_chain r x) absent
        ∙ ap (λ (t : Bool). ((cond (t && is_empty_group r.attrs.fixed f.pages n) (need (place_group r.volume r.attrs n f) (no.NoRun (group_length r.attrs.fixed n) r.longest)) (need (option_map (with_block Data n f) page_at) (no.NoSpace r.need r.free)) >>= (λ placed. Ok (with_data n placed))) >>= (λ h. Ok h)) >>= place_chain r x) none

    next_by : (g : Filling) (o : Option ℕ) → after_page o ≡ Ok g → IsNext n x f g
    next_by g None is = absurd cc
    next_by g (Some b) is =
        let h : Filling = with_data n (with_block Data n f b) in
        let are : AreMaps (maps_needed (record x { present = h.pages }) - length f.maps) h g =
        chain_ok _ h g _ (place_maps r.volume (maps_needed (record x { present = h.pages }) - length f.maps) h) _ _ refl is in
        let used : h.pages ≡ with_page (page_of n b) f.pages = new_used n b f.pages in
        record {
          block = b;
          pages = are.pages ∙ used;
          count = are.count ∙ ap (λ (p : List Mapped). length f.maps + (maps_needed (record x { present = p }) - length f.maps)) (sym are.pages);
        }

    pub next_is : (g : Filling) → place_fill r x n 1 f ≡ Ok g → IsNext n x f g
    next_is g is = next_by g page_at (sym written ∙ is)

    refused_by : (w : Refusal) (o : Option ℕ) → after_page o ≡ Err w → IsPlaceRefusal w
    refused_by w None is = let same : no.NoSpace r.need r.free ≡ w = cc in subst IsPlaceRefusal same refl
    refused_by w (Some b) is = chain_err _ (place_maps r.volume (maps_needed (record x { present = (with_data n (with_block Data n f b)).pages }) - length f.maps) (with_data n (with_block Data n f b))) _ _ w refl refl is

    pub next_refused : (w : Refusal) → place_fill r x n 1 f ≡ Err w → IsPlaceRefusal w
    next_refused w is = refused_by w page_at (sym written ∙ is)
