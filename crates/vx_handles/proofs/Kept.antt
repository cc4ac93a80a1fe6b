-- What the slots keep, from change to change.
use Rattle.std.proofs.Common.{◌≡◌, ◌≢◌, ℕ, ◌+◌, ◌<◌, ◌≤◌, true, false, cond, List, [], ◌∷◌, Option, Some, None, refl, sym, ap, ◌∙◌, arith, inl, inr, count_by}
use Rattle.std.specs.Prelude.{map as list_map, length}
use Rattle.std.specs.Ordering.{eq_by_cmp, is_eq}
use Rattle.std.specs.Cmp.{tied_itself}
use Rattle.std.specs.FinMap as map
use Rattle.std.proofs.lemmas.Bool.{cases_eq}
use Rattle.slab.specs.Slab.{Slab, slab_len, Updates}
use Rattle.vx_handles.specs.declared.handles.Entry.{Entry}
use Rattle.vx_handles.specs.OpenHandles.{Key, Opened, key_cmp, key_of, value_of, OpenHandles, opened, is_on, slots_on, count_on, IsKept}
use Rattle.vx_handles.proofs.Keys.{equal, key_total, key_same, taken_back, len_more, count_insert}
use Rattle.vx_handles.proofs.Slots.{some_same, none_some, slot_at, IsAbsent, IsApart, at_none, at_some, held, not_none, slots_grow}

-- one slot more, with a new key
record Grows (xs ys : List (Option Entry)) (place : ℕ) (e : Entry) : Type 0 where
  unused : slot_at xs place ≡ None
  used : slot_at ys place ≡ Some e
  others : (i : ℕ) → i ≢ place → slot_at ys i ≡ slot_at xs i
  alone : IsApart xs
  absent : IsAbsent xs (key_of e)

module _ (xs ys : List (Option Entry)) (place : ℕ) (e : Entry) (g : Grows xs ys place e) where
  -- where a slot of the new list was
  was : (i : ℕ) (d : Entry) → slot_at ys i ≡ Some d → i ≢ place → slot_at xs i ≡ Some d
  was i d is ne = sym (g.others i ne) ∙ is

  is_new : (i : ℕ) (d : Entry) → slot_at ys i ≡ Some d → i ≡ place → d ≡ e
  is_new i d is here = some_same d e (sym is ∙ ap (slot_at ys) here ∙ g.used)

  still_apart : IsApart ys
  still_apart i j c d at_i at_j same = elim (cases_eq i place) [
    | inl i_new ↦ elim (cases_eq j place) [
      | inl j_new ↦ i_new ∙ sym j_new
      | inr j_old ↦ absurd (g.absent j d (was j d at_j j_old) (sym same ∙ ap key_of (is_new i c at_i i_new)))
    ]
    | inr i_old ↦ elim (cases_eq j place) [
      | inl j_new ↦ absurd (g.absent i c (was i c at_i i_old) (same ∙ ap key_of (is_new j d at_j j_new)))
      | inr j_old ↦ g.alone i j c d (was i c at_i i_old) (was j d at_j j_old) same
    ]
  ]

  new_key : map.get (opened xs) (key_of e) ≡ None
  new_key = at_none xs (key_of e) g.absent

  other_key : (q : Key) → q ≢ key_of e → map.get (opened ys) q ≡ map.get (opened xs) q
  other_key q ne =
      elim (map.get (opened xs) q) as (λ o. map.get (opened xs) q ≡ o → map.get (opened ys) q ≡ o) [
        | None ↦ λ none. at_none ys q (λ i d is at. elim (cases_eq i place) [
          | inl here ↦ ne (sym at ∙ ap key_of (is_new i d is here))
          | inr old ↦ not_none xs i d (was i d is old) (ap (map.get (opened xs)) at ∙ none)
        ])
        | Some v ↦ λ found.
            let h = held xs q v found in
            let old : h.0 ≢ place = λ (here : h.0 ≡ place). none_some (slot_at xs h.0) h.1 (ap (slot_at xs) here ∙ g.unused) h.2 in
            ap (map.get (opened ys)) (sym h.3) ∙ at_some ys h.0 h.1 still_apart (g.others h.0 old ∙ h.2) ∙ ap Some h.4
      ] refl

  grown : opened ys ≡ map.insert (opened xs) (key_of e) (value_of e)
  grown = map.same_map key_total key_same _ _ (λ q.
      elim (eq_by_cmp key_cmp q (key_of e)) as (λ b. eq_by_cmp key_cmp q (key_of e) ≡ b → map.get (opened ys) q ≡ cond b (Some (value_of e)) (map.get (opened xs) q)) [
        | true ↦ λ t. ap (map.get (opened ys)) (key_same q (key_of e) (equal _ t)) ∙ at_some ys place e still_apart g.used
        | false ↦ λ f. other_key q (λ at.
            let yes : eq_by_cmp key_cmp q (key_of e) ≡ true = ap (eq_by_cmp key_cmp q) (sym at) ∙ ap is_eq (tied_itself key_total q) in
            cc)
      ] refl
      ∙ sym (map.get-insert key_total (opened xs) (key_of e) (value_of e) q))

  grown_on : (ino : ℕ) → slots_on xs ino ≡ count_on (opened xs) ino → slots_on ys ino ≡ count_on (opened ys) ino
  grown_on ino counts =
      let more = count_insert key_total key_same (is_on ino) (opened xs) (key_of e) (value_of e) new_key in
      let slots = slots_grow ino xs ys place e g.unused g.used g.others in
      slots ∙ ap (λ n. cond (is_on ino (value_of e)) 1 0 + n) counts ∙ sym more ∙ ap (λ (m : OpenHandles). count_on m ino) (sym grown)

  shrunk_on : (ino : ℕ) → slots_on ys ino ≡ count_on (opened ys) ino → slots_on xs ino ≡ count_on (opened xs) ino
  shrunk_on ino counts =
      let more = count_insert key_total key_same (is_on ino) (opened xs) (key_of e) (value_of e) new_key in
      let slots = slots_grow ino xs ys place e g.unused g.used g.others in
      let both : cond (is_on ino (value_of e)) 1 0 + slots_on xs ino ≡ cond (is_on ino (value_of e)) 1 0 + count_on (opened xs) ino =
      sym slots ∙ counts ∙ ap (λ (m : OpenHandles). count_on m ino) grown ∙ more in
      omega (arith, both)

  grown_len : map.len (opened ys) ≡ map.len (opened xs) + 1
  grown_len = ap map.len grown ∙ len_more key_total key_same (opened xs) (key_of e) (value_of e) new_key

  shrunk : map.remove (opened ys) (key_of e) ≡ opened xs
  shrunk = ap (λ (m : OpenHandles). map.remove m (key_of e)) grown ∙ taken_back key_total key_same (opened xs) (key_of e) (value_of e) new_key

no_length : (es : List (Key × Opened)) → length es ≡ 0 → es ≡ []
no_length [] e = refl
no_length (x ∷ es) e = absurd (omega arith)

no_entries : map.entries (map.empty {X = Opened} {R = key_cmp}) ≡ []
no_entries = no_length _ (sym (map.len-entries map.empty) ∙ map.len-empty key_cmp Opened)

nothing_on : (ino : ℕ) → count_on (map.empty {R = key_cmp}) ino ≡ 0
nothing_on ino = ap (λ (es : List (Key × Opened)). count_by (is_on ino) (list_map (λ e. e.1) es)) no_entries

-- nothing is open
pub kept_empty : (s : Slab Entry) → s.slots ≡ [] → 256 ≤ s.capacity → IsKept s
kept_empty s none room = record {
  room = room;
  few = rw none (omega arith);
  apart = λ i j d e at_i at_j same. none_some {X = Entry} (slot_at s.slots i) d (ap (λ (xs : List (Option Entry)). slot_at xs i) none) at_i;
  counted = rw none (sym (map.len-empty key_cmp Opened));
  counted_on = λ ino. rw none (sym (nothing_on ino));
}

module _ (less more : Slab Entry) (place : ℕ) (e : Entry) (capacity : more.capacity ≡ less.capacity) (len : slab_len more ≡ slab_len less + 1) where
  module _ (kept : IsKept less) (room : slab_len less < 256) (absent : IsAbsent less.slots (key_of e)) (unused : slot_at less.slots place ≡ None) (updates : Updates less more place (Some e)) where
    grows : Grows less.slots more.slots place e
    grows = record { unused = unused; used = updates.changed; others = updates.others; alone = kept.apart; absent = absent }

    pub opened_more : opened more.slots ≡ map.insert (opened less.slots) (key_of e) (value_of e)
    opened_more = grown less.slots more.slots place e grows

    pub kept_more : IsKept more
    kept_more = record {
      room = omega (arith, kept.room, capacity);
      few = omega (arith, len);
      apart = still_apart less.slots more.slots place e grows;
      counted = omega (arith, len, kept.counted, grown_len less.slots more.slots place e grows);
      counted_on = λ ino. grown_on less.slots more.slots place e grows ino (kept.counted_on ino);
    }

  module _ (kept : IsKept more) (used : slot_at more.slots place ≡ Some e) (updates : Updates more less place None) where
    there : (i : ℕ) (d : Entry) → slot_at less.slots i ≡ Some d → i ≢ place
    there i d is here = none_some {X = Entry} (slot_at less.slots i) d (ap (slot_at less.slots) here ∙ updates.changed) is

    stood : (i : ℕ) (d : Entry) → slot_at less.slots i ≡ Some d → slot_at more.slots i ≡ Some d
    stood i d is = sym (updates.others i (there i d is)) ∙ is

    shrinks : Grows less.slots more.slots place e
    shrinks = record {
      unused = updates.changed;
      used = used;
      others = λ i ne. sym (updates.others i ne);
      alone = λ i j c d at_i at_j same. kept.apart i j c d (stood i c at_i) (stood j d at_j) same;
      absent = λ i d is same. there i d is (kept.apart i place d e (stood i d is) used same);
    }

    pub opened_less : map.remove (opened more.slots) (key_of e) ≡ opened less.slots
    opened_less = shrunk less.slots more.slots place e shrinks

    pub kept_less : IsKept less
    kept_less = record {
      room = omega (arith, kept.room, capacity);
      few = omega (arith, kept.few, len);
      apart = shrinks.alone;
      counted = omega (arith, len, kept.counted, grown_len less.slots more.slots place e shrinks);
      counted_on = λ ino. shrunk_on less.slots more.slots place e shrinks ino (kept.counted_on ino);
    }
