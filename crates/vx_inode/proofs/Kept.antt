-- What every table keeps, from change to change.
use Rattle.std.proofs.Common.{◌≡◌, ℕ, ◌*◌, ◌<◌, ◌≤◌, true, false, Option, None, refl, sym, ◌∙◌, ap, subst, inl, inr, arith}
use Rattle.std.specs.Prelude.{is_some}
use Rattle.std.specs.Ordering.{nat_cmp}
use Rattle.std.specs.FinMap as map
use Rattle.std.proofs.lemmas.Bool.{cases_eq, cases_lt}
use Rattle.vx_base.specs.declared.inode.Inode.{Inode}
use Rattle.vx_base.proofs.Maps.{at_key, at_other}
use Rattle.vx_inode.specs.Tables.{Table, inode_at, is_used, with_inode, without_inode, links_of, links_at, IsKept}
use Rattle.vx_inode.proofs.Counts.{removed, kept}

-- no inode yet
pub kept_empty : (units : ℕ) → 1 ≤ units → units ≤ 64 → IsKept (record { units = units; inodes = map.empty }) 3
kept_empty units some few = record {
  some_unit = some;
  at_most_64 = few;
  none_below_2 = λ q h. map.get-empty nat_cmp q;
  none_past_units = λ q h. map.get-empty nat_cmp q;
  few_links = λ q. let none : links_of (map.get (map.empty {R = nat_cmp}) q) ≡ 0 = ap links_of (map.get-empty nat_cmp q) in omega arith;
  from_3 = omega arith;
  used_below = λ q low high. absurd (omega arith);
}

-- where a used number lies
pub used_range : (t : Table) (lowest ino : ℕ) → IsKept t lowest → is_used t ino ≡ true → (2 ≤ ino) × (ino < 128 * t.units)
used_range t lowest ino k used = (
  elim (cases_lt ino 2) [ inl lt ↦ let no : is_used t ino ≡ false = ap is_some (k.none_below_2 ino lt) in cc | inr le ↦ le ],
  elim (cases_lt ino (128 * t.units)) [ inl lt ↦ lt | inr le ↦ let no : is_used t ino ≡ false = ap is_some (k.none_past_units ino le) in cc ],
)

module _ (t : Table) (lowest ino : ℕ) (k : IsKept t lowest) where
  -- an inode at a number, new or not
  pub kept_with : (inode : Inode) → 2 ≤ ino → ino < 128 * t.units → inode.nlink ≤ 32767 → IsKept (with_inode t ino inode) lowest
  kept_with inode low high links = record {
    some_unit = k.some_unit;
    at_most_64 = k.at_most_64;
    none_below_2 = λ q h. at_other t.inodes ino inode q (λ e. absurd (omega arith)) ∙ k.none_below_2 q h;
    none_past_units = λ q h. at_other t.inodes ino inode q (λ e. absurd (omega arith)) ∙ k.none_past_units q h;
    few_links = λ q. elim (cases_eq q ino) [
      | inl here ↦ subst (λ (x : ℕ). links_at (with_inode t ino inode) x ≤ 32767) (sym here) (subst (λ (o : Option Inode). links_of o ≤ 32767) (sym (at_key t.inodes ino inode)) links)
      | inr other ↦ subst (λ (o : Option Inode). links_of o ≤ 32767) (sym (at_other t.inodes ino inode q other)) (k.few_links q)
    ];
    from_3 = k.from_3;
    used_below = λ q from below. elim (cases_eq q ino) [
      | inl here ↦ subst (λ (x : ℕ). is_used (with_inode t ino inode) x ≡ true) (sym here) (ap is_some (at_key t.inodes ino inode))
      | inr other ↦ ap is_some (at_other t.inodes ino inode q other) ∙ k.used_below q from below
    ];
  }

  after_removal : (q : ℕ) (P : Option Inode → Type 0) → P None → P (inode_at t q) → P (map.get (map.remove t.inodes ino) q)
  after_removal q P none same = elim (cases_eq q ino) [
    | inl here ↦ subst (λ (x : ℕ). P (map.get (map.remove t.inodes ino) x)) (sym here) (subst P (sym (removed t.inodes ino)) none)
    | inr other ↦ subst P (sym (kept t.inodes ino q other)) same
  ]

  -- a number less, with another one below which all are used
  pub kept_without : (next : ℕ) → 3 ≤ next → next ≤ lowest → (3 ≤ ino → next ≤ ino) → IsKept (without_inode t ino) next
  kept_without next from_3 below_lowest below_ino = record {
    some_unit = k.some_unit;
    at_most_64 = k.at_most_64;
    none_below_2 = λ q h. after_removal q (λ o. o ≡ None) refl (k.none_below_2 q h);
    none_past_units = λ q h. after_removal q (λ o. o ≡ None) refl (k.none_past_units q h);
    few_links = λ q. after_removal q (λ o. links_of o ≤ 32767) (omega arith) (k.few_links q);
    from_3 = from_3;
    used_below = λ q from below. ap is_some (kept t.inodes ino q (λ e. let at : next ≤ ino = below_ino (omega arith) in absurd (omega arith))) ∙ k.used_below q from (omega arith);
  }
