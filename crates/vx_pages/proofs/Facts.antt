-- What always holds of the pages that the slots list.
use Rattle.std.proofs.Common.{◌≡◌, ◌≤◌, ℕ, true, false, cond, nat_eq, List, [], ◌∷◌, length, Option, Some, None, refl, arith}
use Rattle.std.specs.List.{AllByRecursion, IsDistinct}
use Rattle.std.specs.Map.{keys_of}
use Rattle.vx_pages.specs.Pages.{Entry, is_page, IsOnce, IsCache}
use Rattle.vx_pages.specs.Indexes.{Tie, slot_at}
use Rattle.vx_pages.specs.Slots.{Slots, listed, names, IsSlotOf, IsSlot, IsKept}

pub listed_fewer : (ss : Slots) → length (listed ss) ≤ length ss
listed_fewer [] = omega arith
listed_fewer (s ∷ ss) = grind (arith, listed_fewer ss)

all_sizes : (block : ℕ) (ss : Slots) → AllByRecursion (IsSlot block) ss → AllByRecursion (λ (e : Entry). length e.bytes ≡ block) (listed ss)
all_sizes block [] h = tt
all_sizes block (s ∷ ss) h = elim s.1.used as (λ u. AllByRecursion (λ (e : Entry). length e.bytes ≡ block) (cond u (s.1.entry ∷ listed ss) (listed ss))) [
  | true ↦ (h.0.1, all_sizes block ss h.1)
  | false ↦ all_sizes block ss h.1
]

nowhere : (ino page : ℕ) (ss : Slots) → IsSlotOf ino page None ss → AllByRecursion (λ (e : Entry). is_page ino page e ≡ false) (listed ss)
nowhere ino page [] h = tt
nowhere ino page (s ∷ ss) h = (elim s.1.used as (λ u. s.1.used ≡ u → AllByRecursion (λ (e : Entry). is_page ino page e ≡ false) (cond u (s.1.entry ∷ listed ss) (listed ss))) [
  | true ↦ λ is. (grind (arith, is, h.0), nowhere ino page ss h.1)
  | false ↦ λ is. nowhere ino page ss h.1
]) refl

pub other_slots : (ino page n : ℕ) (o : Option ℕ) (ss : Slots) → names o n ≡ true → AllByRecursion (λ m. nat_eq n m ≡ false) (keys_of ss) → IsSlotOf ino page o ss → IsSlotOf ino page None ss
other_slots ino page n o [] is apart h = tt
other_slots ino page n None (s ∷ ss) is apart h = h
other_slots ino page n (Some k) (s ∷ ss) is apart h = (grind (arith, is, apart.0, h.0), other_slots ino page n (Some k) ss is apart.1 h.1)

all_once : (ss : Slots) → IsDistinct nat_eq (keys_of ss) → ((ino page : ℕ) → (k : Option ℕ) × IsSlotOf ino page k ss) → IsOnce (listed ss)
unfolding IsDistinct
all_once [] d tied = tt
all_once (s ∷ ss) d tied =
    let rest : IsOnce (listed ss) = all_once ss d.1 (λ ino page. let t = tied ino page in (t.0, t.1.1)) in
    (elim s.1.used as (λ u. s.1.used ≡ u → IsOnce (cond u (s.1.entry ∷ listed ss) (listed ss))) [
      | true ↦ λ is.
          let ino = s.1.entry.ino in let page = s.1.entry.page in
          let t = tied ino page in
          let here : names t.0 s.0 ≡ true = grind (arith, t.1.0, is) in
          (nowhere ino page ss (other_slots ino page s.0 t.0 ss here d.0 t.1.1), rest)
      | false ↦ λ is. rest
    ]) refl

pub is_cache : {index : List Tie} (block : ℕ) (ss : Slots) → IsDistinct nat_eq (keys_of ss) → IsKept block ss index → IsCache (record { block = block; entries = listed ss })
is_cache {index} block ss d kept = record {
  few = omega (arith, listed_fewer ss, kept.count);
  sizes = all_sizes block ss kept.each;
  once = all_once ss d (λ ino page. (slot_at ino page index, kept.tied.each ino page));
}
