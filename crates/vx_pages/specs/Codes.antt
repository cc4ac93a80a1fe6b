-- The codes of pages and slots, for the models whose values they are.
use Rattle.std.specs.Prelude.{ℕ, Bool, List, refl}
use Rattle.std.specs.Coded.{Coded, code_by, coded×, coded_ℕ, coded_bool, coded_list}
use Rattle.vx_pages.specs.Pages.{Entry, Pages}
use Rattle.vx_pages.specs.Slots.{Slot}

abbrev coded_entry : Coded Entry
coded_entry =
    code_by ((ℕ × ℕ) × (List ℕ × Bool)) (coded× (coded× coded_ℕ coded_ℕ) (coded× (coded_list coded_ℕ) coded_bool))
    (λ e. ((e.ino, e.page), (e.bytes, e.changed))) (λ p. record { ino = p.0.0; page = p.0.1; bytes = p.1.0; changed = p.1.1 }) (λ _. refl)

abbrev pub coded_slot : Coded Slot
coded_slot = code_by (Bool × Entry) (coded× coded_bool coded_entry) (λ s. (s.used, s.entry)) (λ p. record { used = p.0; entry = p.1 }) (λ _. refl)

abbrev pub coded_pages : Coded Pages
coded_pages = code_by (ℕ × List Entry) (coded× coded_ℕ (coded_list coded_entry)) (λ v. (v.block, v.entries)) (λ p. record { block = p.0; entries = p.1 }) (λ _. refl)
