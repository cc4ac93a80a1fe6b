-- What is read as a superblock is spelled so, and what is spelled so is read.
use Rattle.std.proofs.Common.{◌≡◌, ℕ, Bool, true, false, cond, zero, suc, List, ◌∷◌, ◌++◌, length, take, drop, get_or, replicate, Result, Ok, Err, refl, sym, ap, subst, ◌∙◌, arith, length-drop}
use Rattle.std.specs.Prelude.{◌==◌, nat_le, IfOk}
use Rattle.std.specs.Int.{w32}
use Rattle.std.proofs.lemmas.Nat.{from_le_bytes-to_le_bytes_4}
use Rattle.vx_layout.specs.declared.superblock.Super.{Super}
use Rattle.vx_layout.specs.declared.superblock.BadSuper.{BadSuper}
use Rattle.vx_layout.specs.Fields.{number_at}
use Rattle.vx_layout.specs.Supers.{magic, super_bytes, super_at, IsSuper}
use Rattle.std.proofs.lemmas.Bool.{leb-true, le-leb, eqb-true}
use Rattle.std.proofs.lemmas.Slice.Eq.{bytes_eq-Decides}
use Rattle.std.proofs.lemmas.List.{take-append-drop}
use Rattle.std.proofs.Math.Seq.{drop-cons}
use Rattle.vx_layout.proofs.Lists.{guarded, both_sides, zeros_from}
use Rattle.vx_layout.proofs.Numbers.{IsBytes, u32_stands}

flag : Bool → ℕ
flag b = cond b 1 0

reads_flag : (b : Bool) → (cond b 1 0 == 1) ≡ b
reads_flag true = refl
reads_flag false = refl

is_flag : (b : Bool) → nat_le (cond b 1 0) 1 ≡ true
is_flag true = refl
is_flag false = refl

flag_from : (n : ℕ) → nat_le n 1 ≡ true → n ≡ cond (n == 1) 1 0
flag_from zero h = refl
flag_from (suc zero) h = refl
flag_from (suc (suc n)) h = absurd (omega (arith, leb-true _ _ h))

pub super_again : (v : Super) → IsSuper v → super_at (super_bytes v) ≡ Ok v
unfolding number_at
super_again v fits =
    let log : number_at w32 16 (super_bytes v) ≡ v.log_blocks = from_le_bytes-to_le_bytes_4 v.log_blocks (omega (arith, fits.log_high)) in
    let units : number_at w32 20 (super_bytes v) ≡ v.units = from_le_bytes-to_le_bytes_4 v.units (omega (arith, fits.units_high)) in
    rw (log, units, le-leb _ _ fits.log_low, le-leb _ _ fits.log_high, le-leb _ _ fits.units_low, le-leb _ _ fits.units_high, is_flag v.clean, reads_flag v.clean) refl

-- the parts of what is read, once every test has passed
record Passed (s : List ℕ) (v : Super) : Type 0 where
  pub magic_is : take 8 s ≡ magic
  pub layout_is : number_at w32 8 s ≡ 1
  pub block_is : number_at w32 12 s ≡ 1024
  pub log_is : number_at w32 16 s ≡ v.log_blocks
  pub units_is : number_at w32 20 s ≡ v.units
  pub start_is : number_at w32 24 s ≡ 2
  pub clean_is : get_or s 28 0 ≡ cond v.clean 1 0
  pub rest_is : drop 29 s ≡ replicate 483 0

spelled : (s : List ℕ) (v : Super) → length s ≡ 512 → IsBytes s → Passed s v → s ≡ super_bytes v
spelled s v len fits p =
    let e8 = u32_stands s 8 1 (omega arith) fits p.layout_is in
    let e12 = u32_stands s 12 1024 (omega arith) fits p.block_is in
    let e16 = u32_stands s 16 v.log_blocks (omega arith) fits p.log_is in
    let e20 = u32_stands s 20 v.units (omega arith) fits p.units_is in
    let e24 = u32_stands s 24 2 (omega arith) fits p.start_is in
    let e28 : drop 28 s ≡ get_or s 28 0 ∷ drop 29 s = drop-cons s 28 0 (omega arith) in
    let whole : take 8 s ++ drop 8 s ≡ s = take-append-drop 8 s in
    sym whole ∙ rw (p.magic_is, e8, e12, e16, e20, e24, e28, p.clean_is, p.rest_is) refl

abbrev done : Super → Result Super BadSuper
done x = Ok x

ok_is : (x y : Super) → done x ≡ done y → x ≡ y
ok_is x y e = cc

pub super_found : (s : List ℕ) (v : Super) → length s ≡ 512 → IsBytes s → super_at s ≡ Ok v → IsSuper v × (s ≡ super_bytes v)
super_found s v len fits h =
    let g1 = guarded _ _ _ v h in
    let g2 = guarded _ _ _ v g1.1 in
    let g3 = guarded _ _ _ v g2.1 in
    let g4 = guarded _ _ _ v g3.1 in
    let g5 = guarded _ _ _ v g4.1 in
    let g6 = guarded _ _ _ v g5.1 in
    let g7 = guarded _ _ _ v g6.1 in
    let g8 = guarded _ _ _ v g7.1 in
    let found : Super = record { log_blocks = number_at w32 16 s; units = number_at w32 20 s; clean = get_or s 28 0 == 1 } in
    let log = both_sides _ _ g4.0 in
    let units = both_sides _ _ g5.0 in
    let is : IsSuper found = record { log_low = leb-true _ _ log.0; log_high = leb-true _ _ log.1; units_low = leb-true _ _ units.0; units_high = leb-true _ _ units.1 } in
    let passed : Passed s found = record {
      magic_is = (bytes_eq-Decides (take 8 s) magic).0 g1.0;
      layout_is = eqb-true _ _ g2.0;
      block_is = eqb-true _ _ g3.0;
      log_is = refl;
      units_is = refl;
      start_is = eqb-true _ _ g6.0;
      clean_is = flag_from (get_or s 28 0) g7.0;
      rest_is = zeros_from (drop 29 s) 483 (omega (arith, length-drop 29 s)) g8.0;
    } in
    let P : Super → Type 0 = λ x. IsSuper x × (s ≡ super_bytes x) in
    subst P (ok_is found v g8.1) (is, spelled s found len fits passed)

pub is_found : (s : List ℕ) (r : Result Super BadSuper) → length s ≡ 512 → IsBytes s → r ≡ super_at s → IfOk r (λ v. IsSuper v × (s ≡ super_bytes v))
is_found s (Ok v) len fits e = super_found s v len fits (sym e)
is_found s (Err b) len fits e = tt

pub super_unique : (v w : Super) → IsSuper v → IsSuper w → super_bytes v ≡ super_bytes w → v ≡ w
super_unique v w fv fw e = ok_is v w (sym (super_again v fv) ∙ ap super_at e ∙ super_again w fw)
