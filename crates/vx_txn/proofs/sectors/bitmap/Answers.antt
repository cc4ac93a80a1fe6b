use Rattle.std.proofs.Common.{◌≡◌, ℕ, ◌+◌, ◌-◌, ◌*◌, false, get_or, ap, sym, ◌∙◌, arith}
use Rattle.std.specs.Prelude.{◌||◌, is_some, IsTrue, nat_lt}
use Rattle.vx_alloc.specs.FreeMaps.{is_used}
use Rattle.vx_layout.specs.Places.{Volume, unit_block, is_data}
use Rattle.vx_model.specs.Layout.{volume, claim_of}
use Rattle.vx_txn.specs.Staged.{is_in_use}
use Rattle.vx_txn.proofs.MetaLaws.{owned_used}
use Rattle.vx_txn.proofs.UnitSectors.{bit_same, sector_same}
use Rattle.vx_txn.proofs.sectors.bitmap.Goals as goal

pub used_in-requires : goal.used_in-requires
used_in-requires c = let s = c.requires.sound in omega (arith, c.requires.inside, s.stands.is.free_units)

pub returns : goal.returns
returns c = λ s stands.
    let v : Volume = volume s.layout in
    let m = c.args.meta.now in
    let u = c.args.unit in
    let lead : 4096 - m.free.per_unit ≡ 33 = omega (arith, stands.is.per_unit) in
    let start : (j : ℕ) → m.free.first + 4096 * u + j ≡ unit_block v u + j = (λ j. omega (arith, stands.is.free_first, stands.is.first)) in
    c.write_bits.ensures ∙ sector_same (λ j. get_or c.used_in.result j false) (is_in_use s.layout u) (λ j lt.
    c.used_in.ensures j lt ∙ ap (λ (k : ℕ). nat_lt j k || is_used m.free (m.free.first + 4096 * u + j)) lead ∙ ap (λ (b : ℕ). nat_lt j 33 || is_used m.free b) (start j)
    ∙ bit_same j (is_used m.free (unit_block v u + j)) (is_some (claim_of s.layout (unit_block v u + j))) (λ high.
    let within : IsTrue (is_data v (unit_block v u + j)) = c.places.ensures.data_blocks v u j (omega (arith, c.requires.inside, stands.is.units)) lt high in
    owned_used m s stands (unit_block v u + j) within ∙ sym (c.claims.ensures.owned s (unit_block v u + j) stands.laid_out (c.plain_states.ensures.on_device s stands.laid_out stands.plain))))
