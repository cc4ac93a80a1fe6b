-- Counts of names.
use Rattle.std.proofs.Common.{◌≡◌, ◌≢◌, ℕ, suc, ◌+◌, ◌-◌, ◌^◌, ◌<◌, min, Bool, true, false, cond, List, [], ◌∷◌, length, take, get_or, set, map, refl, sym, ap, ap₂, subst, ◌∙◌, inl, inr, arith, rules, get_or-set_same, get_or-set_other}
use Rattle.std.specs.Prelude.{◌==◌}
use Rattle.std.specs.List.{flat_map, count_by}
use Rattle.std.proofs.lemmas.Bool.{cases_eq}
use Rattle.std.proofs.lemmas.List.{length-set}
use Rattle.std.proofs.lemmas.List.Sums.{sum_by_more, sum_by-cons, sum_by-append}
use Rattle.vx_base.specs.declared.inode.DirEntry.{DirEntry}
use Rattle.vx_layout.specs.Places.{Volume}
use Rattle.vx_sound.specs.FirstFault.{numbers}
use Rattle.vx_sound.specs.Said.{Image, inode_count, entries_of, names_of}
use Rattle.vx_check.specs.Reaching.{Children, children_of}
use Rattle.vx_check.specs.Links.{AreCounts, AreChildren, count_of, names_in}

same_test : (c : ℕ) → (c == c) ≡ true
same_test c = search rules

other_test : (c b : ℕ) → c ≢ b → (c == b) ≡ false
other_test c b ne = search rules

abbrev one_if : ℕ → ℕ → ℕ
one_if n x = cond (x == n) 1 0

count_more : (ts : List ℕ) (t n : ℕ) → t < length ts → count_of (take (t + 1) ts) n ≡ count_of (take t ts) n + one_if n (get_or ts t 0)
count_more ts t n lt = sum_by_more (one_if n) ts t 0 lt

-- counts after t of the numbers
pub record IsBumped (old counts targets : List ℕ) (t : ℕ) : Type 0 where
  pub length_is : length counts ≡ length old
  pub known : (f : ℕ → ℕ) → AreCounts old f → AreCounts counts (λ n. f n + count_of (take t targets) n)

pub bumped_none : (old targets : List ℕ) → IsBumped old old targets 0
bumped_none old targets = record { length_is = refl; known = λ f h n lt. let e : f n + 0 ≡ f n = omega arith in h n lt ∙ ap (λ (x : ℕ). min x (2 ^ 32 - 1)) (sym e) }

capped : (a : ℕ) → min (min a (2 ^ 32 - 1) + 1) (2 ^ 32 - 1) ≡ min (a + 1) (2 ^ 32 - 1)
capped a = omega arith

pub bumped_more : (old counts targets : List ℕ) (t x more : ℕ) → t < length targets → get_or targets t 0 ≡ x → x < length counts → more ≡ min (get_or counts x 0 + 1) (2 ^ 32 - 1)
    → IsBumped old counts targets t → IsBumped old (set counts x more) targets (t + 1)
bumped_more old counts targets t x more lt is inside added b = record {
  length_is = length-set counts x more ∙ b.length_is;
  known = λ f h n low.
      let long = length-set counts x more in
      let was : n < length counts = omega arith in
      let before = b.known f h in
      elim (cases_eq n x) [
        | inl e ↦
            let one : one_if n (get_or targets t 0) ≡ 1 = ap (one_if n) (is ∙ sym e) ∙ ap (λ (q : Bool). cond q 1 0) (same_test n) in
            let count : count_of (take (t + 1) targets) n ≡ count_of (take t targets) n + 1 = count_more targets t n lt ∙ ap (λ (y : ℕ). count_of (take t targets) n + y) one in
            let sum : f n + count_of (take t targets) n + 1 ≡ f n + count_of (take (t + 1) targets) n = omega arith in
            ap (λ (j : ℕ). get_or (set counts x more) j 0) e ∙ get_or-set_same counts x more 0 inside ∙ added
            ∙ ap (λ (y : ℕ). min (y + 1) (2 ^ 32 - 1)) (ap (λ (j : ℕ). get_or counts j 0) (sym e) ∙ before n was)
            ∙ capped (f n + count_of (take t targets) n) ∙ ap (λ (y : ℕ). min y (2 ^ 32 - 1)) sum
        | inr ne ↦
            let ne_too : get_or targets t 0 ≢ n = λ q. ne (sym q ∙ is) in
            let none : one_if n (get_or targets t 0) ≡ 0 = ap (λ (q : Bool). cond q 1 0) (other_test (get_or targets t 0) n ne_too) in
            let count : count_of (take (t + 1) targets) n ≡ count_of (take t targets) n + 0 = count_more targets t n lt ∙ ap (λ (y : ℕ). count_of (take t targets) n + y) none in
            let sum : f n + count_of (take t targets) n ≡ f n + count_of (take (t + 1) targets) n = omega arith in
            get_or-set_other counts x n more 0 ne ∙ before n was ∙ ap (λ (y : ℕ). min y (2 ^ 32 - 1)) sum
      ];
}

pub bumped_all : (old counts targets : List ℕ) (t : ℕ) → take t targets ≡ targets → IsBumped old counts targets t → (f : ℕ → ℕ) → AreCounts old f → AreCounts counts (λ n. f n + count_of targets n)
bumped_all old counts targets t all b f h = subst (λ (ts : List ℕ). AreCounts counts (λ n. f n + count_of ts n)) all (b.known f h)

-- ---- all directories

pub record IsCounted (counts : List ℕ) (g : Children) (d : ℕ) : Type 0 where
  pub length_is : length counts ≡ length g
  pub counts_are : AreCounts counts (names_in (take d g))

pub counted_more : (counts new : List ℕ) (g : Children) (d : ℕ) → d < length g → IsCounted counts g d → length new ≡ length counts → ((f : ℕ → ℕ) → AreCounts counts f → AreCounts new (λ n. f n + count_of (children_of g d) n)) → IsCounted new g (d + 1)
counted_more counts new g d lt c long more = record {
  length_is = long ∙ c.length_is;
  counts_are = λ n low. more (names_in (take d g)) c.counts_are n low ∙ ap (λ (y : ℕ). min y (2 ^ 32 - 1)) (sym (sum_by_more (λ (ts : List ℕ). count_of ts n) g d [] lt));
}

-- ---- these are the image's names

abbrev one_named : ℕ → DirEntry → ℕ
one_named n e = cond (e.ino == n) 1 0

count_map : (n : ℕ) (es : List DirEntry) → count_of (map (λ (e : DirEntry). e.ino) es) n ≡ count_by (λ (e : DirEntry). e.ino == n) es
count_map n [] = refl
count_map n (e ∷ es) =
    sum_by-cons (one_if n) e.ino (map (λ (x : DirEntry). x.ino) es) ∙ ap (λ (y : ℕ). cond (e.ino == n) 1 0 + y) (count_map n es) ∙ sym (sum_by-cons (one_named n) e es)

module _ (v : Volume) (image : Image) (n : ℕ) where
  from : (a : ℕ) (g : Children) → ((d : ℕ) → d < length g → get_or g d [] ≡ map (λ (e : DirEntry). e.ino) (entries_of v image (a + d)))
      → names_in g n ≡ count_by (λ (e : DirEntry). e.ino == n) (flat_map (entries_of v image) (numbers a (length g)))
  from a [] h = refl
  from a (ts ∷ g) h =
      let e0 : a + 0 ≡ a = omega arith in
      let first : ts ≡ map (λ (e : DirEntry). e.ino) (entries_of v image a) = h 0 (omega arith) ∙ ap (λ (j : ℕ). map (λ (e : DirEntry). e.ino) (entries_of v image j)) e0 in
      let rest = from (suc a) g (λ d lt. let e1 : a + suc d ≡ suc a + d = omega arith in h (suc d) (omega arith) ∙ ap (λ (j : ℕ). map (λ (e : DirEntry). e.ino) (entries_of v image j)) e1) in
      sum_by-cons (λ (l : List ℕ). count_of l n) ts g
      ∙ ap₂ (λ (x y : ℕ). x + y) (ap (λ (l : List ℕ). count_of l n) first ∙ count_map n (entries_of v image a)) rest
      ∙ sym (sum_by-append (one_named n) (entries_of v image a) (flat_map (entries_of v image) (numbers (suc a) (length g))))

  pub names_are : (g : Children) → length g ≡ inode_count v → AreChildren g v image → names_in g n ≡ names_of v image n
  unfolding names_of
  names_are g long h =
      from 0 g (λ d lt. let e : 0 + d ≡ d = omega arith in h d ∙ ap (λ (j : ℕ). map (λ (e : DirEntry). e.ino) (entries_of v image j)) (sym e))
      ∙ ap (λ (k : ℕ). count_by (λ (e : DirEntry). e.ino == n) (flat_map (entries_of v image) (numbers 0 k))) long
