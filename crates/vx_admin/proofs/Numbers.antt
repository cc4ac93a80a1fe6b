-- Numbers of four digits at most.
use Rattle.std.proofs.Common.{◌≡◌, ℕ, ◌<◌, ◌≤◌, ◌^◌, lit<, Bool, true, false, ◌&&◌, nat_le, List, length, refl, arith}
use Rattle.std.proofs.Math.Nat.{pow-le-pow_right}
use Rattle.std.proofs.lemmas.Bool.Decides.{nat_tests}
use Rattle.std.specs.Prelude.{get_or}
use Rattle.std.specs.List.{list_all}
use Rattle.vx_admin.specs.Words.{is_digit, is_number}

both : (a b : Bool) → (a && b) ≡ true → (a ≡ true) × (b ≡ true)
both true b h = (refl, h)
both false b h = absurd (cc)

few_digits : (digits : List ℕ) → is_number digits ≡ true → length digits ≤ 4
few_digits digits h =
    let few = nat_le (length digits) 4 in
    let first = nat_le 49 (get_or digits 0 0) in
    let a = both (few && first) (list_all is_digit digits) h in
    let b = both few first a.0 in
    grind (arith, nat_tests, b.0)

-- the value of the digits before one of them
pub value_below : (digits : List ℕ) (i value : ℕ) → is_number digits ≡ true → i < length digits → value < 10 ^ i → value < 1000
value_below digits i value h lt small =
    let i_small : i ≤ 3 = omega (arith, few_digits digits h) in
    let power : 10 ^ i ≤ 10 ^ 3 = pow-le-pow_right (lit< tt) i_small in
    omega arith
