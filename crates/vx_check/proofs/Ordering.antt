-- Extents in order, and those of a directory.
use Rattle.std.proofs.Common.{◌≡◌, ℕ, zero, suc, ◌+◌, ◌-◌, ◌*◌, ◌<◌, ◌≤◌, List, [], ◌∷◌, length, take, get_or, refl, sym, ap, subst, ◌∙◌, inl, inr, arith, length-append}
use Rattle.std.specs.List.{flat_map, AllByRecursion}
use Rattle.std.proofs.lemmas.Bool.{cases_eq}
use Rattle.vx_base.specs.declared.kind.Kind.TheVariants.{Data}
use Rattle.vx_base.specs.declared.inode.Extent.{Extent}
use Rattle.vx_sound.specs.FirstFault.{numbers}
use Rattle.vx_sound.specs.Said.{extent_blocks}
use Rattle.vx_base.specs.declared.kind.FileKind.{FileKind}
use Rattle.vx_base.specs.declared.kind.FileKind.TheVariants.{Directory}
use Rattle.vx_base.specs.declared.inode.InodeValue.{InodeValue}
use Rattle.vx_layout.specs.Places.{Volume}
use Rattle.vx_sound.specs.Facts.{Follows, AreInOrder, AreWithoutHoles, FitKind}
use Rattle.vx_check.specs.Extents.{pages_of}

-- each of the first t follows the one before it
pub record IsOrdered (es : List Extent) (t : ℕ) : Type 0 where
  pub each : (j : ℕ) (d : Extent) → j + 1 < t → Follows (get_or es j d) (get_or es (j + 1) d)

pub ordered_start : (es : List Extent) → IsOrdered es 1
ordered_start es = record { each = λ j d lt. absurd (omega arith) }

pub ordered_more : (es : List Extent) (t : ℕ) → 1 ≤ t → t < length es → IsOrdered es t → ((d : Extent) → Follows (get_or es (t - 1) d) (get_or es t d)) → IsOrdered es (t + 1)
ordered_more es t some lt o last = record { each = λ j d low. step j d low }
  where
    same : (j : ℕ) (d : Extent) → j ≡ t - 1 → Follows (get_or es j d) (get_or es (j + 1) d)
    same j d e =
        let f : j + 1 ≡ t = omega arith in
        subst (λ (k : ℕ). Follows (get_or es j d) (get_or es k d)) (sym f) (subst (λ (k : ℕ). Follows (get_or es k d) (get_or es t d)) (sym e) (last d))

    step : (j : ℕ) (d : Extent) → j + 1 < t + 1 → Follows (get_or es j d) (get_or es (j + 1) d)
    step j d low = elim (cases_eq j (t - 1)) [
      | inl e ↦ same j d e
      | inr ne ↦ o.each j d (omega arith)
    ]

pub order_of : (es : List Extent) (t : ℕ) → length es ≤ t → IsOrdered es t → AreInOrder es
order_of [] t le o = tt
order_of (e ∷ []) t le o = tt
order_of (e ∷ f ∷ es) t le o =
    let first : Follows e f = o.each 0 e (omega arith) in (
      first,
      order_of (f ∷ es) (t - 1) (omega arith) (record {
        each = λ j d low. let next : suc j + 1 < t = omega arith in let e1 : suc j + 1 ≡ suc (j + 1) = omega arith in
            subst (λ (k : ℕ). Follows (get_or (f ∷ es) j d) (get_or (e ∷ f ∷ es) k d)) e1 (o.each (suc j) d next);
      }),
    )

pub order_at : (es : List Extent) (j : ℕ) (d : Extent) → j + 1 < length es → AreInOrder es → Follows (get_or es j d) (get_or es (j + 1) d)
order_at [] j d lt o = absurd (omega arith)
order_at (e ∷ []) j d lt o = absurd (omega arith)
order_at (e ∷ f ∷ es) zero d lt o = o.0
order_at (e ∷ f ∷ es) (suc j) d lt o = let e1 : suc (j + 1) ≡ suc j + 1 = omega arith in
    subst (λ (k : ℕ). Follows (get_or (f ∷ es) j d) (get_or (e ∷ f ∷ es) k d)) e1 (order_at (f ∷ es) j d (omega arith) o.1)

-- ---- pages

length_numbers : (a n : ℕ) → length (numbers a n) ≡ n
length_numbers a zero = refl
length_numbers a (suc n) = ap suc (length_numbers (suc a) n)

pub pages_are : (es : List Extent) → length (flat_map extent_blocks es) ≡ pages_of es
pages_are [] = refl
pages_are (e ∷ es) = length-append (numbers e.start e.len) (flat_map extent_blocks es) ∙ ap (λ (n : ℕ). n + length (flat_map extent_blocks es)) (length_numbers e.start e.len) ∙ ap (λ (n : ℕ). e.len + n) (pages_are es)

-- what is known after t extents: no hole among these, and so many pages
pub record IsSolid (es : List Extent) (t at : ℕ) : Type 0 where
  pub whole : AreWithoutHoles 0 (take t es)
  pub pages : at ≡ pages_of (take t es)
  pub few : at ≤ 64

solid_more : (a : ℕ) (es : List Extent) (t : ℕ) (d : Extent) → t < length es → AreWithoutHoles a (take t es) → (get_or es t d).page ≡ a + pages_of (take t es) → (get_or es t d).kind ≡ Data → AreWithoutHoles a (take (t + 1) es)
solid_more a [] t d lt h page kind = absurd (omega arith)
solid_more a (e ∷ es) zero d lt h page kind = let z : a + 0 ≡ a = omega arith in (page ∙ z, kind, tt)
solid_more a (e ∷ es) (suc t) d lt h page kind =
    let e1 : suc (t + 1) ≡ suc t + 1 = omega arith in
    let sum : a + (e.len + pages_of (take t es)) ≡ a + e.len + pages_of (take t es) = omega arith in
    subst (λ (k : ℕ). AreWithoutHoles a (take k (e ∷ es))) e1 (h.0, h.1, solid_more (a + e.len) es t d (omega arith) h.2 (page ∙ sum) kind)

solid_at : (a : ℕ) (es : List Extent) (t : ℕ) (d : Extent) → t < length es → AreWithoutHoles a es → ((get_or es t d).page ≡ a + pages_of (take t es)) × ((get_or es t d).kind ≡ Data)
solid_at a [] t d lt h = absurd (omega arith)
solid_at a (e ∷ es) zero d lt h = let z : a ≡ a + 0 = omega arith in (h.0 ∙ z, h.1)
solid_at a (e ∷ es) (suc t) d lt h =
    let r = solid_at (a + e.len) es t d (omega arith) h.2 in
    let sum : a + e.len + pages_of (take t es) ≡ a + (e.len + pages_of (take t es)) = omega arith in
    (r.0 ∙ sum, r.1)

pages_more : (es : List Extent) (t : ℕ) (d : Extent) → t < length es → pages_of (take (t + 1) es) ≡ pages_of (take t es) + (get_or es t d).len
pages_more [] t d lt = absurd (omega arith)
pages_more (e ∷ es) zero d lt = omega arith
pages_more (e ∷ es) (suc t) d lt =
    let e1 : suc t + 1 ≡ suc (t + 1) = omega arith in
    let more = pages_more es t d (omega arith) in
    let sum : e.len + (pages_of (take t es) + (get_or es t d).len) ≡ e.len + pages_of (take t es) + (get_or es t d).len = omega arith in
    ap (λ (k : ℕ). pages_of (take k (e ∷ es))) e1 ∙ ap (λ (n : ℕ). e.len + n) more ∙ sum

pages_bound : (es : List Extent) (t : ℕ) (d : Extent) → t < length es → pages_of (take t es) + (get_or es t d).len ≤ pages_of es
pages_bound [] t d lt = absurd (omega arith)
pages_bound (e ∷ es) zero d lt = omega arith
pages_bound (e ∷ es) (suc t) d lt = let b = pages_bound es t d (omega arith) in omega arith

pub solid_step : (es : List Extent) (t at new : ℕ) (e : Extent) → t < length es → get_or es t e ≡ e → e.page ≡ at → e.kind ≡ Data → e.len ≤ 64 - at → new ≡ at + e.len → IsSolid es t at → IsSolid es (t + 1) new
solid_step es t at new e lt is page kind len sum s =
    let more : pages_of (take (t + 1) es) ≡ pages_of (take t es) + e.len = pages_more es t e lt ∙ ap (λ (x : Extent). pages_of (take t es) + x.len) is in
    let z : 0 + pages_of (take t es) ≡ pages_of (take t es) = omega arith in
    let few = s.few in let pages = s.pages in
    record {
      whole = solid_more 0 es t e lt s.whole (ap (λ (x : Extent). x.page) is ∙ page ∙ pages ∙ sym z) (ap (λ (x : Extent). x.kind) is ∙ kind);
      pages = omega arith;
      few = omega arith;
    }

pub solid_wrong : (es : List Extent) (t at : ℕ) (e : Extent) → t < length es → get_or es t e ≡ e → IsSolid es t at → AreWithoutHoles 0 es → pages_of es ≤ 64 → (e.page ≡ at) × (e.kind ≡ Data) × (e.len ≤ 64 - at)
solid_wrong es t at e lt is s h few =
    let r = solid_at 0 es t e lt h in
    let b : pages_of (take t es) + e.len ≤ pages_of es = subst (λ (x : Extent). pages_of (take t es) + x.len ≤ pages_of es) is (pages_bound es t e lt) in
    let z : 0 + pages_of (take t es) ≡ pages_of (take t es) = omega arith in
    let pages = s.pages in let low = s.few in
    (ap (λ (x : Extent). x.page) (sym is) ∙ r.0 ∙ z ∙ sym pages, ap (λ (x : Extent). x.kind) (sym is) ∙ r.1, omega arith)

-- ---- one extent more

pub all_more : (P : Extent → Type 0) (es : List Extent) (t : ℕ) (d : Extent) → t < length es → AllByRecursion P (take t es) → P (get_or es t d) → AllByRecursion P (take (t + 1) es)
all_more P [] t d lt all h = absurd (omega arith)
all_more P (e ∷ es) zero d lt all h = (h, tt)
all_more P (e ∷ es) (suc t) d lt all h =
    let e1 : suc (t + 1) ≡ suc t + 1 = omega arith in let low : t < length es = omega arith in
    subst (λ (j : ℕ). AllByRecursion P (take j (e ∷ es))) e1 (all.0, all_more P es t d low all.1 h)

-- ---- a directory's

module _ (v : Volume) (i : InodeValue) (es : List Extent) (block : v.block ≡ 1024) where
  pub directory_right : (kind : FileKind) (pages : ℕ) → kind ≡ Directory → AreWithoutHoles 0 es → pages ≡ pages_of es → pages ≤ 64 → i.inode.size ≡ 1024 * pages → FitKind kind v i (flat_map extent_blocks es) es
  directory_right kind pages is whole e few size =
      let long = pages_are es in
      subst (λ (k : FileKind). FitKind k v i (flat_map extent_blocks es) es) (sym is) (record {
        whole = whole;
        size = size ∙ ap (λ (n : ℕ). 1024 * n) (e ∙ sym long) ∙ ap (λ (n : ℕ). n * length (flat_map extent_blocks es)) (sym block);
        few = omega arith;
      })

  pub directory_is : (kind : FileKind) → kind ≡ Directory → FitKind kind v i (flat_map extent_blocks es) es → AreWithoutHoles 0 es × (i.inode.size ≡ 1024 * pages_of es) × (pages_of es ≤ 64)
  directory_is kind is h =
      let d = subst (λ (k : FileKind). FitKind k v i (flat_map extent_blocks es) es) is h in
      let long = pages_are es in
      let few = d.few in
      (d.whole, d.size ∙ ap (λ (n : ℕ). n * length (flat_map extent_blocks es)) block ∙ ap (λ (n : ℕ). 1024 * n) long, omega arith)
