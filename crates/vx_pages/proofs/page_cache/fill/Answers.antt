use Rattle.std.proofs.Common.{◌≡◌, ◌∷◌, ℕ, true, false, nat_eq, length, sym, ap, ◌∙◌}
use Rattle.std.specs.Prelude.{is_some}
use Rattle.std.specs.Map.{remove_entry}
use Rattle.lru.specs.LruCache.{lru_cache}
use Rattle.vx_pages.specs.Slots.{Slot}
use Rattle.vx_pages.proofs.Kept.{size_found, found_entry, front_set}
use Rattle.vx_pages.proofs.page_cache.fill.Goals as goal

pub fill-requires : goal.fill-requires
fill-requires c = sym (size_found (length c.args.bytes.now) (nat_eq c.args.number) c.args.slots.now.entries c.in-Some.slot.now c.requires.each (sym c.in-Some.ensures.value))

pub returns-in-Some : goal.returns-in-Some
returns-in-Some c =
    let ss = c.args.slots.now.entries in
    let e = found_entry c.args.number ss c.requires.there in
    c.promote.ensures.entries ∙ ap (λ es. lru_cache es c.args.slots.now.cap) (front_set (nat_eq c.args.number) ss e.0 c.fill.new.self e.1
    ∙ ap (λ (n : ℕ). (n, c.fill.new.self) ∷ remove_entry (nat_eq c.args.number) ss) e.2
    ∙ ap (λ (w : Slot). (c.args.number, w) ∷ remove_entry (nat_eq c.args.number) ss) c.fill.ensures)

pub returns-in_default : goal.returns-in_default
returns-in_default c = let no : false ≡ true = ap is_some c.in_default.ensures.value ∙ c.requires.there in absurd (cc)
