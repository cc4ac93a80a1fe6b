use Rattle.std.proofs.Common.{rules, ◌≡◌, ◌+◌, ℕ, true, false, replicate, sym, subst, ◌∙◌, arith}
use Rattle.std.proofs.lemmas.Grind.{common_steps}
use Rattle.std.proofs.lemmas.Slice.Eq.{bytes_eq-Decides}
use Rattle.vx_layout.specs.Places.{bitmap_sector}
use Rattle.vx_check.proofs.Units.{bitmap_right, bad_bits, bad_rest}
use Rattle.vx_check.proofs.bitmaps.check_bitmap.Goals as goal

pub returns-then-not-is_same-clause-finds : goal.returns-then-not-is_same-clause-finds
returns-then-not-is_same-clause-finds g c = λ strict image known.
    let v = c.args.volume.now in
    let image_at = c.new.ensures ∙ c.get-sector.ensures ∙ c.bitmap_place.ensures in
    let here : image (bitmap_sector v c.args.u) ≡ c.in-Ok.bits = subst (λ (s : ℕ). image s ≡ c.in-Ok.bits) image_at (c.in-Ok.ensures.bytes image known) in
    let bits = c.write_bits.ensures in
    let other : c.is_same.result ≡ false = first_of (search rules, grind (arith, common_steps)) in
    bad_bits v image c.args.u c.args.marks.now c.used_blocks.result c.requires.readable.block (c.requires.marks image (c.sector.ensures.read.seen image known)) c.used_blocks.ensures strict c.get-sector.result c.in-Ok.bits
    (c.get-sector.ensures ∙ c.bitmap_place.ensures) here
    (λ e. let bad : true ≡ false = sym ((bytes_eq-Decides c.write_bits.result c.in-Ok.bits).1 (bits ∙ e)) ∙ sym c.is_same.ensures ∙ other in absurd (cc))

pub returns-then-not-is_same-2-clause-finds : goal.returns-then-not-is_same-2-clause-finds
returns-then-not-is_same-2-clause-finds g c = λ strict image known.
    let v = c.args.volume.now in
    let image_at = c.new.ensures ∙ c.get-sector.ensures ∙ c.bitmap_place.ensures in
    let between = c.sector-2.ensures.read.seen image known in
    let here : image (bitmap_sector v c.args.u) ≡ c.in-Ok.bits = subst (λ (s : ℕ). image s ≡ c.in-Ok.bits) image_at (c.in-Ok.ensures.bytes image between) in
    let bits = c.write_bits.ensures in
    let next_at : c.new-2.result ≡ bitmap_sector v c.args.u + 1 = first_of (search rules, grind (arith, common_steps)) in
    let next : image (bitmap_sector v c.args.u + 1) ≡ c.in-Ok-sector.rest = subst (λ (s : ℕ). image s ≡ c.in-Ok-sector.rest) next_at (c.in-Ok-sector.ensures.bytes image known) in
    let other : c.is_same-2.result ≡ false = first_of (search rules, grind (arith, common_steps)) in
    bad_rest v image c.args.u c.args.marks.now c.used_blocks.result c.requires.readable.block (c.requires.marks image (c.sector.ensures.read.seen image between)) c.used_blocks.ensures strict c.get-sector.result c.in-Ok-sector.rest
    (c.get-sector.ensures ∙ c.bitmap_place.ensures) next
    (λ e. let bad : true ≡ false = sym ((bytes_eq-Decides c.in-Ok-sector.rest (replicate 512 0)).1 e) ∙ sym c.is_same-2.ensures ∙ other in absurd (cc))

pub returns-clause-finds : goal.returns-clause-finds
returns-clause-finds g c = λ strict image known.
    let v = c.args.volume.now in
    let image_at = c.new.ensures ∙ c.get-sector.ensures ∙ c.bitmap_place.ensures in
    let between = c.sector-2.ensures.read.seen image known in
    let here : image (bitmap_sector v c.args.u) ≡ c.in-Ok.bits = subst (λ (s : ℕ). image s ≡ c.in-Ok.bits) image_at (c.in-Ok.ensures.bytes image between) in
    let bits = c.write_bits.ensures in
    let next_at : c.new-2.result ≡ bitmap_sector v c.args.u + 1 = first_of (search rules, grind (arith, common_steps)) in
    let next : image (bitmap_sector v c.args.u + 1) ≡ c.in-Ok-sector.rest = subst (λ (s : ℕ). image s ≡ c.in-Ok-sector.rest) next_at (c.in-Ok-sector.ensures.bytes image known) in
    let same : c.is_same.result ≡ true = first_of (search rules, grind (arith, common_steps)) in
    let zeros : c.is_same-2.result ≡ true = first_of (search rules, grind (arith, common_steps)) in (
      bitmap_right v image c.args.u c.args.marks.now c.used_blocks.result c.requires.readable.block (c.requires.marks image (c.sector.ensures.read.seen image between)) c.used_blocks.ensures c.in-Ok.bits c.in-Ok-sector.rest here next
          (sym bits ∙ (bytes_eq-Decides c.write_bits.result c.in-Ok.bits).0 (sym c.is_same.ensures ∙ same)) ((bytes_eq-Decides c.in-Ok-sector.rest (replicate 512 0)).0 (sym c.is_same-2.ensures ∙ zeros)),
      tt,
    )
