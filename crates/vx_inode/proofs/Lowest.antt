-- Where the lowest unused number is, and when there is none.
use Rattle.std.proofs.Common.{◌≡◌, ℕ, zero, suc, ◌+◌, ◌-◌, ◌*◌, ◌<◌, ◌≤◌, true, false, None, refl, sym, ◌∙◌, ap, subst, inl, inr, arith, Ok, Err}
use Rattle.std.specs.Prelude.{is_some}
use Rattle.std.specs.FinMap as map
use Rattle.std.proofs.lemmas.Bool.{cases_eq, cases_lt}
use Rattle.std.proofs.lemmas.Bool.Decides.{nat_tests}
use Rattle.vx_inode.specs.declared.table.MakeRefusal.TheVariants.{NoInodes}
use Rattle.vx_base.specs.declared.kind.FileKind.TheVariants.{File}
use Rattle.vx_inode.specs.Tables.{Inodes, Table, inode_at, is_used, is_full, make_answer, new_inode, IsKept}
use Rattle.vx_base.specs.Rules.{lowest_absent}
use Rattle.vx_inode.proofs.Counts.{len_more, len_within, len_all}
use Rattle.vx_inode.proofs.Kept.{kept_with}

-- the search ends at the first unused number
search_ends : (inodes : Inodes) (fuel from next : ℕ) → from ≤ next → next < from + fuel → ((q : ℕ) → from ≤ q → q < next → is_some (map.get inodes q) ≡ true) → map.get inodes next ≡ None → lowest_absent inodes fuel from ≡ next
search_ends inodes zero from next low high used none = absurd (omega arith)
search_ends inodes (suc more) from next low high used none = elim (cases_eq from next) [
  | inl here ↦ let unused : is_some (map.get inodes from) ≡ false = ap (λ q. is_some (map.get inodes q)) here ∙ ap is_some none in rw unused here
  | inr other ↦ let taken : is_some (map.get inodes from) ≡ true = used from (omega arith) (omega arith) in rw taken (search_ends inodes more (from + 1) next (omega arith) (omega arith) (λ q l h. used q (omega arith) h) none)
]

-- no number past the units is taken for used
pub lowest_within : (t : Table) (lowest : ℕ) → IsKept t lowest → lowest ≤ 128 * t.units
lowest_within t lowest k = elim (cases_lt (128 * t.units) lowest) [
  | inl lt ↦ let used : is_used t (128 * t.units) ≡ true = k.used_below (128 * t.units) (omega (arith, k.some_unit)) lt in
      let unused : is_used t (128 * t.units) ≡ false = ap is_some (k.none_past_units (128 * t.units) (omega arith)) in cc
  | inr le ↦ le
]

module _ (t : Table) (lowest next : ℕ) (k : IsKept t lowest) (used : (q : ℕ) → lowest ≤ q → q < next → is_used t q ≡ true) where
  used_below_next : (q : ℕ) → 3 ≤ q → q < next → is_used t q ≡ true
  used_below_next q low high = elim (cases_lt q lowest) [ inl lt ↦ k.used_below q low lt | inr le ↦ used q le high ]

  -- a higher number may take the place of `lowest`
  pub kept_raised : 3 ≤ next → IsKept t next
  kept_raised from = record {
    some_unit = k.some_unit;
    at_most_64 = k.at_most_64;
    none_below_2 = k.none_below_2;
    none_past_units = k.none_past_units;
    few_links = k.few_links;
    from_3 = from;
    used_below = used_below_next;
  }

  not_full : 3 ≤ next → next < 128 * t.units → inode_at t next ≡ None → is_full t ≡ false
  not_full low high none =
      let more = kept_with t lowest next k (new_inode File 0) (omega arith) high (omega arith) in
      let most : map.len (map.insert t.inodes next (new_inode File 0)) ≤ 128 * t.units - 2 = len_within _ 2 (128 * t.units - 2) more.none_below_2 (λ q h. more.none_past_units q (omega (arith, k.some_unit))) in
      let less : map.len t.inodes + 1 ≤ 128 * t.units - 2 = omega (arith, len_more t.inodes next (new_inode File 0) none) in
      grind (arith, nat_tests)

  pub found : 3 ≤ next → next < 128 * t.units → inode_at t next ≡ None → make_answer t ≡ Ok next
  found low high none = rw (not_full low high none) (ap Ok (search_ends t.inodes (128 * t.units) 3 next low (omega arith) used_below_next none))

  full : is_used t 2 ≡ true → 128 * t.units ≤ next → is_full t ≡ true
  full root high =
      let most : map.len t.inodes ≤ 128 * t.units - 2 = len_within t.inodes 2 (128 * t.units - 2) k.none_below_2 (λ q h. k.none_past_units q (omega (arith, k.some_unit))) in
      let least : 128 * t.units - 2 ≤ map.len t.inodes = len_all t.inodes 2 (128 * t.units - 2) (λ q l h. elim (cases_eq q 2) [
        | inl here ↦ subst (λ (x : ℕ). is_used t x ≡ true) (sym here) root
        | inr other ↦ used_below_next q (omega arith) (omega arith)
      ]) in
      grind (arith, nat_tests)

  pub nothing_found : is_used t 2 ≡ true → 128 * t.units ≤ next → make_answer t ≡ Err (NoInodes (128 * t.units - 2))
  nothing_found root high = rw (full root high) refl
