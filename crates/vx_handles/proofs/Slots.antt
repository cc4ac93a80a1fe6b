-- What slots hold under a key, and how many are on a file.
use Rattle.std.proofs.Common.{◌≡◌, ◌≢◌, ℕ, zero, suc, ◌+◌, true, false, cond, List, [], ◌∷◌, get_or, Option, Some, None, refl, sym, ap, ◌∙◌, subst, arith}
use Rattle.std.specs.Prelude.{is_some}
use Rattle.std.specs.Option.{unwrap_or}
use Rattle.std.specs.Ordering.{eq_by_cmp, is_eq}
use Rattle.std.specs.Cmp.{tied_itself}
use Rattle.std.specs.FinMap as map
use Rattle.std.specs.FinMap.{find}
use Rattle.slab.specs.Slab.{entries_from}
use Rattle.vx_base.proofs.Maps.{apart}
use Rattle.vx_handles.specs.declared.handles.Entry.{Entry}
use Rattle.vx_handles.specs.OpenHandles.{Key, Opened, key_cmp, key_of, value_of, listed, opened, slot_on, slots_on}
use Rattle.vx_handles.proofs.Keys.{equal, key_total, key_same}

pub some_same : {X : Type 0} (x y : X) → Some x ≡ Some y → x ≡ y
some_same x y e = ap (λ o. unwrap_or o x) e

pub none_some : {X A : Type 0} (o : Option X) (x : X) → o ≡ None → o ≡ Some x → A
none_some o x none is = let no : is_some o ≡ false = ap is_some none in let yes : is_some o ≡ true = ap is_some is in absurd (cc)

abbrev pub slot_at : List (Option Entry) → ℕ → Option Entry
slot_at slots i = get_or slots i None

-- no slot has the key
abbrev pub IsAbsent : List (Option Entry) → Key → Type 0
IsAbsent slots k = (i : ℕ) (e : Entry) → slot_at slots i ≡ Some e → key_of e ≢ k

-- no two slots have one key
abbrev pub IsApart : List (Option Entry) → Type 0
IsApart slots = (i j : ℕ) (d e : Entry) → slot_at slots i ≡ Some d → slot_at slots j ≡ Some e → key_of d ≡ key_of e → i ≡ j

-- a slot has the key, with this value
abbrev pub IsHeld : List (Option Entry) → Key → Opened → Type 0
IsHeld slots k v = (i : ℕ) × (e : Entry) × (slot_at slots i ≡ Some e) × (key_of e ≡ k) × (value_of e ≡ v)

find_none : (k : Key) (slots : List (Option Entry)) → IsAbsent slots k → find key_cmp k (listed slots) ≡ None
find_none k [] h = refl
find_none k (None ∷ slots) h = find_none k slots (λ i e is. h (suc i) e is)
find_none k (Some e ∷ slots) h =
    ap (λ b. cond b (Some (value_of e)) (find key_cmp k (listed slots))) (apart key_cmp key_same k (key_of e) (λ q. h 0 e refl (sym q)))
    ∙ find_none k slots (λ i d is. h (suc i) d is)

find_held : (k : Key) (v : Opened) (slots : List (Option Entry)) → find key_cmp k (listed slots) ≡ Some v → IsHeld slots k v
find_held k v [] is = none_some {X = Opened} None v refl is
find_held k v (None ∷ slots) is = let h = find_held k v slots is in (suc h.0, h.1, h.2, h.3, h.4)
find_held k v (Some e ∷ slots) is =
    elim (eq_by_cmp key_cmp k (key_of e)) as (λ b. eq_by_cmp key_cmp k (key_of e) ≡ b → cond b (Some (value_of e)) (find key_cmp k (listed slots)) ≡ Some v → IsHeld (Some e ∷ slots) k v) [
      | true ↦ λ t is. (0, e, refl, sym (key_same k (key_of e) (equal _ t)), some_same (value_of e) v is)
      | false ↦ λ f is. let h = find_held k v slots is in (suc h.0, h.1, h.2, h.3, h.4)
    ] refl is

find_some : (slots : List (Option Entry)) (i : ℕ) (e : Entry) → slot_at slots i ≡ Some e → is_some (find key_cmp (key_of e) (listed slots)) ≡ true
find_some [] i e is = none_some {X = Entry} None e refl is
find_some (None ∷ slots) zero e is = none_some {X = Entry} None e refl is
find_some (None ∷ slots) (suc i) e is = find_some slots i e is
find_some (Some d ∷ slots) zero e is =
    subst (λ (x : Entry). is_some (cond (eq_by_cmp key_cmp (key_of e) (key_of x)) (Some (value_of x)) (find key_cmp (key_of e) (listed slots))) ≡ true) (sym (some_same d e is))
    (ap (λ b. is_some (cond b (Some (value_of e)) (find key_cmp (key_of e) (listed slots)))) (ap is_eq (tied_itself key_total (key_of e))))
find_some (Some d ∷ slots) (suc i) e is =
    elim (eq_by_cmp key_cmp (key_of e) (key_of d)) as (λ b. is_some (cond b (Some (value_of d)) (find key_cmp (key_of e) (listed slots))) ≡ true) [
      | true ↦ refl
      | false ↦ find_some slots i e is
    ]

pub at_none : (slots : List (Option Entry)) (k : Key) → IsAbsent slots k → map.get (opened slots) k ≡ None
at_none slots k absent = map.get-from_entries key_total (listed slots) k ∙ find_none k slots absent

pub held : (slots : List (Option Entry)) (k : Key) (v : Opened) → map.get (opened slots) k ≡ Some v → IsHeld slots k v
held slots k v is = find_held k v slots (sym (map.get-from_entries key_total (listed slots) k) ∙ is)

pub not_none : {A : Type 0} (slots : List (Option Entry)) (i : ℕ) (e : Entry) → slot_at slots i ≡ Some e → map.get (opened slots) (key_of e) ≡ None → A
not_none slots i e is none =
    let no : is_some (map.get (opened slots) (key_of e)) ≡ false = ap is_some none in
    let yes : is_some (map.get (opened slots) (key_of e)) ≡ true = ap is_some (map.get-from_entries key_total (listed slots) (key_of e)) ∙ find_some slots i e is in
    absurd (cc)

pub at_some : (slots : List (Option Entry)) (i : ℕ) (e : Entry) → IsApart slots → slot_at slots i ≡ Some e → map.get (opened slots) (key_of e) ≡ Some (value_of e)
at_some slots i e alone is =
    elim (map.get (opened slots) (key_of e)) as (λ o. map.get (opened slots) (key_of e) ≡ o → o ≡ Some (value_of e)) [
      | None ↦ λ none. not_none slots i e is none
      | Some v ↦ λ found.
          let h = held slots (key_of e) v found in
          let there : h.0 ≡ i = alone h.0 i h.1 e h.2 is h.3 in
          let one : h.1 ≡ e = some_same h.1 e (sym h.2 ∙ ap (slot_at slots) there ∙ is) in
          ap Some (sym h.4 ∙ ap value_of one)
    ] refl

-- ---- counts

module _ (ino : ℕ) where
  same_slots : (xs ys : List (Option Entry)) → ((i : ℕ) → slot_at ys i ≡ slot_at xs i) → slots_on ys ino ≡ slots_on xs ino
  same_slots [] [] h = refl
  same_slots [] (y ∷ ys) h = omega (arith, ap (λ s. slot_on s ino) (h 0), same_slots [] ys (λ i. h (suc i)))
  same_slots (x ∷ xs) [] h = omega (arith, ap (λ s. slot_on s ino) (h 0), same_slots xs [] (λ i. h (suc i)))
  same_slots (x ∷ xs) (y ∷ ys) h = omega (arith, ap (λ s. slot_on s ino) (h 0), same_slots xs ys (λ i. h (suc i)))

  -- one slot more
  pub slots_grow : (xs ys : List (Option Entry)) (place : ℕ) (e : Entry) → slot_at xs place ≡ None → slot_at ys place ≡ Some e → ((i : ℕ) → i ≢ place → slot_at ys i ≡ slot_at xs i)
      → slots_on ys ino ≡ slot_on (Some e) ino + slots_on xs ino
  slots_grow xs [] place e none is others = none_some {X = Entry} None e refl is
  slots_grow [] (y ∷ ys) zero e none is others = omega (arith, ap (λ s. slot_on s ino) is, same_slots [] ys (λ i. others (suc i) (λ q. absurd (omega arith))))
  slots_grow [] (y ∷ ys) (suc place) e none is others = omega (arith, ap (λ s. slot_on s ino) (others 0 (λ q. absurd (omega arith))), slots_grow [] ys place e refl is (λ i ne. others (suc i) (λ q. ne (omega arith))))
  slots_grow (x ∷ xs) (y ∷ ys) zero e none is others = omega (arith, ap (λ s. slot_on s ino) is, ap (λ s. slot_on s ino) none, same_slots xs ys (λ i. others (suc i) (λ q. absurd (omega arith))))
  slots_grow (x ∷ xs) (y ∷ ys) (suc place) e none is others = omega (arith, ap (λ s. slot_on s ino) (others 0 (λ q. absurd (omega arith))), slots_grow xs ys place e none is (λ i ne. others (suc i) (λ q. ne (omega arith))))

-- how many entries are on a file
abbrev pub entries_on : List (ℕ × Entry) → ℕ → ℕ
entries_on [] ino = 0
entries_on (entry ∷ entries) ino = slot_on (Some entry.1) ino + entries_on entries ino

pub entries_on_slots : (from : ℕ) (slots : List (Option Entry)) (ino : ℕ) → entries_on (entries_from from slots) ino ≡ slots_on slots ino
entries_on_slots from [] ino = refl
entries_on_slots from (None ∷ slots) ino = omega (arith, entries_on_slots (from + 1) slots ino)
entries_on_slots from (Some e ∷ slots) ino = ap (λ n. slot_on (Some e) ino + n) (entries_on_slots (from + 1) slots ino)
