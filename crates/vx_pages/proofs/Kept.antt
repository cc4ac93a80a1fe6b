-- Slots stay as they must be.
use Rattle.std.proofs.Common.{◌≡◌, ◌+◌, ◌-◌, ◌<◌, ◌≤◌, ℕ, zero, suc, take, is_some, Bool, true, false, ◌&&◌, ◌==◌, cond, nat_eq, List, [], ◌∷◌, length, Option, Some, None, refl, sym, ap, ◌∙◌, subst, arith}
use Rattle.std.specs.List.{AllByRecursion, IsDistinct}
use Rattle.std.specs.Option.{option_map_or}
use Rattle.std.specs.Map.{keys_of, lookup, lookup_entry, remove_entry, set_value}
use Rattle.std.proofs.lemmas.Grind.{common_steps}
use Rattle.lru.specs.LruCache.{LruCache, promoted, put_entries}
use Rattle.vx_pages.specs.Pages.{overwritten, written, cleaned}
use Rattle.vx_pages.specs.Indexes.{Tie, slot_at, Enters}
use Rattle.vx_pages.specs.Slots.{Slot, Slots, listed, holds, names, IsSlotOf, IsSlot, IsThere, but, IsKept}

module _ (test : ℕ → Bool) where
  pub length_set : (ss : Slots) (w : Slot) → length (set_value test ss w) ≡ length ss
  length_set [] w = refl
  length_set (s ∷ ss) w = grind (arith, length_set ss w)

  pub length_removed : (ss : Slots) (e : ℕ × Slot) → lookup_entry test ss ≡ Some e → length (remove_entry test ss) + 1 ≡ length ss
  length_removed [] e found = absurd (cc)
  length_removed (s ∷ ss) e found = grind (arith, found, length_removed ss e)

  module _ (P : ℕ × Slot → Type 0) where
    pub all_set : (ss : Slots) (s w : Slot) → lookup test ss ≡ Some s → ((n : ℕ) → P (n, s) → P (n, w)) → AllByRecursion P ss → AllByRecursion P (set_value test ss w)
    all_set [] s w found keeps h = tt
    all_set (t ∷ ss) s w found keeps h = (elim (test t.0) as (λ b. cond b (Some t.1) (lookup test ss) ≡ Some s → AllByRecursion P (cond b ((t.0, w) ∷ ss) (t ∷ set_value test ss w))) [
      | true ↦ λ f. let same : t.1 ≡ s = cc in (keeps t.0 (subst (λ (x : Slot). P (t.0, x)) same h.0), h.1)
      | false ↦ λ f. (h.0, all_set ss s w f keeps h.1)
    ]) found

    pub all_removed : (ss : Slots) → AllByRecursion P ss → AllByRecursion P (remove_entry test ss)
    all_removed [] h = tt
    all_removed (t ∷ ss) h = elim (test t.0) as (λ b. AllByRecursion P (cond b ss (t ∷ remove_entry test ss))) [
      | true ↦ h.1
      | false ↦ (h.0, all_removed ss h.1)
    ]

    pub all_found : (ss : Slots) (e : ℕ × Slot) → lookup_entry test ss ≡ Some e → AllByRecursion P ss → P e
    all_found [] e found h = absurd (cc)
    all_found (t ∷ ss) e found h = (elim (test t.0) as (λ b. cond b (Some t) (lookup_entry test ss) ≡ Some e → P e) [
      | true ↦ λ f. let same : t ≡ e = cc in subst P same h.0
      | false ↦ λ f. all_found ss e f h.1
    ]) found

    pub all_promoted : (ss : Slots) → AllByRecursion P ss → AllByRecursion P (promoted test ss)
    all_promoted ss h = (elim (lookup_entry test ss) as (λ o. lookup_entry test ss ≡ o → AllByRecursion P (option_map_or (λ e. e ∷ remove_entry test ss) o ss)) [
      | None ↦ λ f. h
      | Some e ↦ λ f. (all_found ss e f h, all_removed ss h)
    ]) refl

  pub length_promoted : (ss : Slots) → length (promoted test ss) ≡ length ss
  length_promoted ss = (elim (lookup_entry test ss) as (λ o. lookup_entry test ss ≡ o → length (option_map_or (λ e. e ∷ remove_entry test ss) o ss) ≡ length ss) [
    | None ↦ λ f. refl
    | Some e ↦ λ f. omega (arith, length_removed ss e f)
  ]) refl

module _ (test : ℕ → Bool) where
  -- ---- which numbers are there, and how many pages

  found_set : (k : ℕ) (ss : Slots) (w : Slot) → is_some (lookup (nat_eq k) (set_value test ss w)) ≡ is_some (lookup (nat_eq k) ss)
  found_set k [] w = refl
  found_set k (t ∷ ss) w = grind (arith, found_set k ss w)

  found_moved : (k : ℕ) (ss : Slots) (e : ℕ × Slot) → lookup_entry test ss ≡ Some e → is_some (lookup (nat_eq k) (e ∷ remove_entry test ss)) ≡ is_some (lookup (nat_eq k) ss)
  found_moved k [] e found = absurd (let no : None ≡ Some e = found in cc)
  found_moved k (t ∷ ss) e found = grind (arith, found, found_moved k ss e)

  found_promoted : (k : ℕ) (ss : Slots) → is_some (lookup (nat_eq k) (promoted test ss)) ≡ is_some (lookup (nat_eq k) ss)
  found_promoted k ss = (elim (lookup_entry test ss) as (λ o. lookup_entry test ss ≡ o → is_some (lookup (nat_eq k) (option_map_or (λ e. e ∷ remove_entry test ss) o ss)) ≡ is_some (lookup (nat_eq k) ss)) [
    | None ↦ λ f. refl
    | Some e ↦ λ f. found_moved k ss e f
  ]) refl

  pub there_set : (o : Option ℕ) (ss : Slots) (w : Slot) → IsThere o ss → IsThere o (set_value test ss w)
  there_set None ss w h = tt
  there_set (Some k) ss w h = found_set k ss w ∙ h

  pub there_moved : (o : Option ℕ) (ss : Slots) (e : ℕ × Slot) → lookup_entry test ss ≡ Some e → IsThere o ss → IsThere o (e ∷ remove_entry test ss)
  there_moved None ss e found h = tt
  there_moved (Some k) ss e found h = found_moved k ss e found ∙ h

  pub there_promoted : (o : Option ℕ) (ss : Slots) → IsThere o ss → IsThere o (promoted test ss)
  there_promoted None ss h = tt
  there_promoted (Some k) ss h = found_promoted k ss ∙ h

  pub listed_set : (ss : Slots) (s w : Slot) → lookup test ss ≡ Some s → w.used ≡ s.used → length (listed (set_value test ss w)) ≡ length (listed ss)
  listed_set [] s w found same = refl
  listed_set (t ∷ ss) s w found same = grind (arith, found, same, listed_set ss s w)

  pub listed_moved : (ss : Slots) (e : ℕ × Slot) → lookup_entry test ss ≡ Some e → length (listed (e ∷ remove_entry test ss)) ≡ length (listed ss)
  listed_moved [] e found = absurd (let no : None ≡ Some e = found in cc)
  listed_moved (t ∷ ss) e found = grind (arith, found, listed_moved ss e)

  pub listed_promoted : (ss : Slots) → length (listed (promoted test ss)) ≡ length (listed ss)
  listed_promoted ss = (elim (lookup_entry test ss) as (λ o. lookup_entry test ss ≡ o → length (listed (option_map_or (λ e. e ∷ remove_entry test ss) o ss)) ≡ length (listed ss)) [
    | None ↦ λ f. refl
    | Some e ↦ λ f. listed_moved ss e f
  ]) refl

-- the same page, or none, with as many bytes
pub record SamePlace (s w : Slot) : Type 0 where
  pub used : w.used ≡ s.used
  pub ino : w.entry.ino ≡ s.entry.ino
  pub page : w.entry.page ≡ s.entry.page
  pub size : length w.entry.bytes ≡ length s.entry.bytes

pub kept_promoted : {index : List Tie} (block : ℕ) (test : ℕ → Bool) (ss : Slots) → IsKept block ss index → IsKept block (promoted test ss) index
kept_promoted {index} block test ss kept = record {
  count = length_promoted test ss ∙ kept.count;
  each = all_promoted test (IsSlot block) ss kept.each;
  tied = record {
    each = λ ino page. all_promoted test _ ss (kept.tied.each ino page);
    there = λ ino page. there_promoted test (slot_at ino page index) ss (kept.tied.there ino page);
  };
  few = omega (arith, kept.few, listed_promoted test ss);
}

pub kept_set : {index : List Tie} (block : ℕ) (test : ℕ → Bool) (ss : Slots) (s w : Slot) → lookup test ss ≡ Some s → SamePlace s w → IsKept block ss index → IsKept block (set_value test ss w) index
kept_set {index} block test ss s w found same kept = record {
  count = length_set test ss w ∙ kept.count;
  each = all_set test (IsSlot block) ss s w found (λ n h. (h.0, same.size ∙ h.1)) kept.each;
  tied = record {
    each = λ ino page. all_set test _ ss s w found (λ n h. rw (same.used, same.ino, same.page) h) (kept.tied.each ino page);
    there = λ ino page. there_set test (slot_at ino page index) ss w (kept.tied.there ino page);
  };
  few = omega (arith, kept.few, listed_set test ss s w found same.used);
}

-- ---- a new page

others : (k : ℕ) (ss : Slots) → IsDistinct nat_eq (keys_of ss) → AllByRecursion (λ (s : ℕ × Slot). nat_eq k s.0 ≡ false) (remove_entry (nat_eq k) ss)
unfolding IsDistinct
others k [] d = tt
others k (s ∷ ss) d = (elim (nat_eq k s.0) as (λ b. nat_eq k s.0 ≡ b → AllByRecursion (λ (s : ℕ × Slot). nat_eq k s.0 ≡ false) (cond b ss (s ∷ remove_entry (nat_eq k) ss))) [
  | true ↦ λ is. apart ss (subst (λ n. AllByRecursion (λ y. nat_eq n y ≡ false) (keys_of ss)) (sym (same k s.0 is)) d.0)
  | false ↦ λ is. (is, others k ss d.1)
]) refl
  where
    same : (n m : ℕ) → nat_eq n m ≡ true → n ≡ m
    same n m is = grind (arith, is)

    apart : (ts : Slots) → AllByRecursion (λ y. nat_eq k y ≡ false) (keys_of ts) → AllByRecursion (λ (s : ℕ × Slot). nat_eq k s.0 ≡ false) ts
    apart [] h = tt
    apart (t ∷ ts) h = (h.0, apart ts h.1)

module _ (block ino page k : ℕ) (w : Slot) where
  with_first : (o : Option ℕ) (i q : ℕ) (ss : Slots) → AllByRecursion (λ (s : ℕ × Slot). nat_eq k s.0 ≡ false) ss → IsSlotOf i q o ss → IsSlotOf i q (but k o) ss
  with_first o i q [] apart h = tt
  with_first None i q (s ∷ ss) apart h = h
  with_first (Some n) i q (s ∷ ss) apart h = (grind (arith, apart.0, h.0), with_first (Some n) i q ss apart.1 h.1)

  as_new : (ss : Slots) → AllByRecursion (λ (s : ℕ × Slot). nat_eq k s.0 ≡ false) ss → IsSlotOf ino page None ss → IsSlotOf ino page (Some k) ss
  as_new [] apart h = tt
  as_new (s ∷ ss) apart h = (apart.0 ∙ h.0, as_new ss apart.1 h.1)

  there_but : (o : Option ℕ) (ts : Slots) → IsThere o ts → IsThere (but k o) ts
  there_but None ts h = tt
  there_but (Some n) ts h = (elim (nat_eq n k) as (λ b. IsThere (cond b None (Some n)) ts) [
    | true ↦ tt
    | false ↦ h
  ])

  -- the slot k is there whatever stands in it
  there_filled : (o : Option ℕ) (x : Slot) (ts : Slots) → IsThere o ((k, x) ∷ ts) → IsThere o ((k, w) ∷ ts)
  there_filled None x ts h = tt
  there_filled (Some n) x ts h = (elim (nat_eq n k) as (λ b. is_some (cond b (Some x) (lookup (nat_eq n) ts)) ≡ true → is_some (cond b (Some w) (lookup (nat_eq n) ts)) ≡ true) [
    | true ↦ λ i. refl
    | false ↦ λ i. i
  ]) h

  pub kept_filled : (index left new_index : List Tie) (ss : Slots) (e : ℕ × Slot) → lookup_entry (nat_eq k) ss ≡ Some e → IsDistinct nat_eq (keys_of ss) → IsSlotOf ino page None ss → k < 1024
      → w.used ≡ true → w.entry.ino ≡ ino → w.entry.page ≡ page → length w.entry.bytes ≡ block → e.0 ≡ k
      → ((i q : ℕ) → slot_at i q left ≡ but k (slot_at i q index)) → length left ≤ length (listed (remove_entry (nat_eq k) ss)) → Enters ino page k left new_index → length new_index ≡ length left + 1
      → IsKept block ss index → IsKept block ((k, w) ∷ remove_entry (nat_eq k) ss) new_index
  kept_filled index left new_index ss e found distinct absent less used at_ino at_page size key leaves few enters more kept =
      let apart = others k ss distinct in
      let ts = remove_entry (nat_eq k) ss in
      let now : (i q : ℕ) → slot_at i q new_index ≡ cond ((ino == i) && (page == q)) (Some k) (but k (slot_at i q index)) = (λ i q. enters i q ∙ ap (cond ((ino == i) && (page == q)) (Some k)) (leaves i q)) in
      record {
        count = omega (arith, length_removed (nat_eq k) ss e found, kept.count);
        each = ((less, size), all_removed (nat_eq k) (IsSlot block) ss kept.each);
        tied = record {
          each = λ i q. subst (λ (o : Option ℕ). IsSlotOf i q o ((k, w) ∷ ts)) (sym (now i q)) (held i q);
          there = λ i q. subst (λ (o : Option ℕ). IsThere o ((k, w) ∷ ts)) (sym (now i q)) (still i q);
        };
        few = omega (arith, few, more, ap (λ u. length (cond u (w.entry ∷ listed ts) (listed ts))) used);
      }
    where
      first : (i q : ℕ) (o : Option ℕ) → ((ino == i) && (page == q)) ≡ false → names (but k o) k ≡ holds i q w
      first i q None is = grind (arith, used, at_ino, at_page, is)
      first i q (Some n) is = grind (arith, used, at_ino, at_page, is)

      held : (i q : ℕ) → IsSlotOf i q (cond ((ino == i) && (page == q)) (Some k) (but k (slot_at i q index))) ((k, w) ∷ remove_entry (nat_eq k) ss)
      held i q = (elim ((ino == i) && (page == q)) as (λ b. ((ino == i) && (page == q)) ≡ b → IsSlotOf i q (cond b (Some k) (but k (slot_at i q index))) ((k, w) ∷ remove_entry (nat_eq k) ss)) [
        | true ↦ λ is.
            let same_ino : ino ≡ i = grind (arith, is) in
            let same_page : page ≡ q = grind (arith, is) in (
              grind (arith, used, at_ino, at_page, is),
              subst (λ x. IsSlotOf x q (Some k) (remove_entry (nat_eq k) ss)) same_ino (subst (λ x. IsSlotOf ino x (Some k) (remove_entry (nat_eq k) ss)) same_page
                  (as_new (remove_entry (nat_eq k) ss) (others k ss distinct) (all_removed (nat_eq k) _ ss absent))),
            )
        | false ↦ λ is. (first i q (slot_at i q index) is, with_first (slot_at i q index) i q (remove_entry (nat_eq k) ss) (others k ss distinct) (all_removed (nat_eq k) _ ss (kept.tied.each i q)))
      ]) refl

      here : is_some (lookup (nat_eq k) ((k, w) ∷ remove_entry (nat_eq k) ss)) ≡ true
      here = grind arith

      still : (i q : ℕ) → IsThere (cond ((ino == i) && (page == q)) (Some k) (but k (slot_at i q index))) ((k, w) ∷ remove_entry (nat_eq k) ss)
      still i q = (elim ((ino == i) && (page == q)) as (λ b. IsThere (cond b (Some k) (but k (slot_at i q index))) ((k, w) ∷ remove_entry (nat_eq k) ss)) [
        | true ↦ here
        | false ↦ there_filled (but k (slot_at i q index)) e.1 (remove_entry (nat_eq k) ss)
            (there_but (slot_at i q index) ((k, e.1) ∷ remove_entry (nat_eq k) ss)
            (subst (λ n. IsThere (slot_at i q index) ((n, e.1) ∷ remove_entry (nat_eq k) ss)) key (there_moved (nat_eq k) (slot_at i q index) ss e found (kept.tied.there i q))))
      ])

-- ---- no page

pub kept_unused : (block : ℕ) (ss : Slots) → length ss ≡ 1024 → AllByRecursion (IsSlot block) ss → AllByRecursion (λ (s : ℕ × Slot). s.1.used ≡ false) ss → IsKept block ss []
kept_unused block ss count each unused = record { count = count; each = each; tied = record { each = λ ino page. nowhere ino page ss unused; there = λ ino page. tt }; few = omega arith }
  where
    nowhere : (ino page : ℕ) (ts : Slots) → AllByRecursion (λ (s : ℕ × Slot). s.1.used ≡ false) ts → IsSlotOf ino page None ts
    nowhere ino page [] h = tt
    nowhere ino page (t ∷ ts) h = (grind (arith, h.0), nowhere ino page ts h.1)

pub tied_set : (ino page : ℕ) (k : Option ℕ) (test : ℕ → Bool) (ss : Slots) (s w : Slot) → lookup test ss ≡ Some s → SamePlace s w → IsSlotOf ino page k ss → IsSlotOf ino page k (set_value test ss w)
tied_set ino page k test ss s w found same h = all_set test _ ss s w found (λ n t. rw (same.used, same.ino, same.page) t) h

pub place_cleaned : (s w : Slot) → w ≡ record { used = s.used; entry = cleaned s.entry } → SamePlace s w
place_cleaned s w is = rw is (record { used = refl; ino = refl; page = refl; size = refl })

pub length_overwritten : (from : ℕ) (new old : List ℕ) → from + length new ≤ length old → length (overwritten from new old) ≡ length old
length_overwritten from new old fits = grind (arith, common_steps, fits)

pub place_written : (from : ℕ) (new : List ℕ) (s w : Slot) → from + length new ≤ length s.entry.bytes → w ≡ record { used = s.used; entry = written from new s.entry } → SamePlace s w
place_written from new s w fits is = rw is (record { used = refl; ino = refl; page = refl; size = length_overwritten from new s.entry.bytes fits })

pub size_found : (block : ℕ) (test : ℕ → Bool) (ss : Slots) (s : Slot) → AllByRecursion (IsSlot block) ss → lookup test ss ≡ Some s → length s.entry.bytes ≡ block
size_found block test [] s h found = absurd (let no : None ≡ Some s = found in cc)
size_found block test (t ∷ ss) s h found = grind (arith, found, h.0.1, size_found block test ss s h.1)

pub front_set : (test : ℕ → Bool) (ss : Slots) (e : ℕ × Slot) (w : Slot) → lookup_entry test ss ≡ Some e → promoted test (set_value test ss w) ≡ (e.0, w) ∷ remove_entry test ss
front_set test ss e w found = rw (there ss found) (ap (λ rest. (e.0, w) ∷ rest) (removed ss))
  where
    there : (ts : Slots) → lookup_entry test ts ≡ Some e → lookup_entry test (set_value test ts w) ≡ Some (e.0, w)
    there [] f = absurd (let no : None ≡ Some e = f in cc)
    there (t ∷ ts) f = (elim (test t.0) as (λ b. test t.0 ≡ b → cond b (Some t) (lookup_entry test ts) ≡ Some e → lookup_entry test (cond b ((t.0, w) ∷ ts) (t ∷ set_value test ts w)) ≡ Some (e.0, w)) [
      | true ↦ λ is g. let same : t ≡ e = cc in rw is (ap (λ (x : ℕ × Slot). Some (x.0, w)) same)
      | false ↦ λ is g. rw is (there ts g)
    ]) refl f

    removed : (ts : Slots) → remove_entry test (set_value test ts w) ≡ remove_entry test ts
    removed [] = refl
    removed (t ∷ ts) = (elim (test t.0) as (λ b. test t.0 ≡ b → remove_entry test (cond b ((t.0, w) ∷ ts) (t ∷ set_value test ts w)) ≡ cond b ts (t ∷ remove_entry test ts)) [
      | true ↦ λ is. rw is refl
      | false ↦ λ is. rw is (ap (λ rest. t ∷ rest) (removed ts))
    ]) refl

-- ---- slots that are made

pub no_key : (n : ℕ) (ss : Slots) → AllByRecursion (λ (s : ℕ × Slot). s.0 < n) ss → lookup_entry (nat_eq n) ss ≡ None
no_key n [] h = refl
no_key n (s ∷ ss) h = grind (arith, h.0, no_key n ss h.1)

pub all_weaker : (P Q : ℕ × Slot → Type 0) → ((s : ℕ × Slot) → P s → Q s) → (ss : Slots) → AllByRecursion P ss → AllByRecursion Q ss
all_weaker P Q f [] h = tt
all_weaker P Q f (s ∷ ss) h = (f s h.0, all_weaker P Q f ss h.1)

take_all : (n : ℕ) (ss : Slots) → length ss ≤ n → take n ss ≡ ss
take_all zero [] h = refl
take_all zero (s ∷ ss) h = absurd (omega (arith, h))
take_all (suc n) [] h = refl
take_all (suc n) (s ∷ ss) h = ap (λ rest. s ∷ rest) (take_all n ss (omega (arith, h)))

pub more_put : (c : LruCache ℕ Slot) (n : ℕ) (w : Slot) → c.cap ≡ 1024 → length c.entries ≡ n → n < 1024 → AllByRecursion (λ (s : ℕ × Slot). s.0 < n) c.entries → put_entries nat_eq c n w ≡ (n, w) ∷ c.entries
more_put c n w cap count less below = rw (no_key n c.entries below) (ap (λ rest. (n, w) ∷ rest) (take_all (c.cap - 1) c.entries (omega (arith, cap, count, less))))

pub found_entry : (k : ℕ) (ss : Slots) → is_some (lookup (nat_eq k) ss) ≡ true → (e : ℕ × Slot) × (lookup_entry (nat_eq k) ss ≡ Some e) × (e.0 ≡ k)
found_entry k [] is = absurd (let no : false ≡ true = is in cc)
found_entry k (s ∷ ss) is = (elim (nat_eq k s.0) as (λ b. nat_eq k s.0 ≡ b → is_some (cond b (Some s.1) (lookup (nat_eq k) ss)) ≡ true → (e : ℕ × Slot) × (cond b (Some s) (lookup_entry (nat_eq k) ss) ≡ Some e) × (e.0 ≡ k)) [
  | true ↦ λ same i. (s, refl, grind (arith, same))
  | false ↦ λ other i. found_entry k ss i
]) refl is

pub lookup_of : (k : ℕ) (ss : Slots) (e : ℕ × Slot) → lookup_entry (nat_eq k) ss ≡ Some e → lookup (nat_eq k) ss ≡ Some e.1
lookup_of k [] e found = absurd (let no : None ≡ Some e = found in cc)
lookup_of k (s ∷ ss) e found = grind (arith, found, lookup_of k ss e)

pub number_less : (block k : ℕ) (ss : Slots) (e : ℕ × Slot) → AllByRecursion (IsSlot block) ss → lookup_entry (nat_eq k) ss ≡ Some e → k < 1024
number_less block k ss e each found =
    let f = found_entry k ss (ap is_some (lookup_of k ss e found)) in
    omega (arith, (all_found (nat_eq k) (IsSlot block) ss f.0 f.1 each).0, f.2)

pub lookup_set : (test : ℕ → Bool) (ss : Slots) (w : Slot) → is_some (lookup test (set_value test ss w)) ≡ is_some (lookup test ss)
lookup_set test [] w = refl
lookup_set test (s ∷ ss) w = (elim (test s.0) as (λ b. test s.0 ≡ b → is_some (lookup test (cond b ((s.0, w) ∷ ss) (s ∷ set_value test ss w))) ≡ is_some (cond b (Some s.1) (lookup test ss))) [
  | true ↦ λ is. rw is refl
  | false ↦ λ is. rw is (lookup_set test ss w)
]) refl

-- what an index answers
pub held : {block : ℕ} {index : List Tie} {ss : Slots} → IsKept block ss index → (ino page : ℕ) (o : Option ℕ) → o ≡ slot_at ino page index → IsSlotOf ino page o ss
held {ss = ss} kept ino page o is = subst (λ (k : Option ℕ). IsSlotOf ino page k ss) (sym is) (kept.tied.each ino page)

pub key_of : (k : ℕ) (ss : Slots) (e : ℕ × Slot) → lookup_entry (nat_eq k) ss ≡ Some e → e.0 ≡ k
key_of k [] e found = absurd (let no : None ≡ Some e = found in cc)
key_of k (s ∷ ss) e found = grind (arith, found, key_of k ss e)
