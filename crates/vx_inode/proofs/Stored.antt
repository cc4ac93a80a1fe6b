-- A table in its slots.
use Rattle.std.proofs.Common.{◌≡◌, ℕ, ◌*◌, ◌<◌, ◌≤◌, true, List, length, Option, Some, None, refl, sym, ◌∙◌, ap, subst, set, get_or}
use Rattle.vx_base.specs.declared.inode.Inode.{Inode}
use Rattle.vx_inode.specs.Slots.{by_number}
use Rattle.vx_inode.specs.Tables.{Inodes, Table, inode_at, is_used, with_inode, without_inode, IsKept}
use Rattle.vx_inode.proofs.SlotLaws.{set_some, set_none, get_within, used_within}
use Rattle.vx_inode.proofs.Kept.{kept_with, kept_without}

abbrev pub with_inodes : ℕ → Inodes → Table
with_inodes units inodes = record { units = units; inodes = inodes }

abbrev pub stored : ℕ → List (Option Inode) → Table
stored units slots = with_inodes units (by_number slots)

module _ (units : ℕ) (slots : List (Option Inode)) (i ino : ℕ) (t : Table) (is : stored units slots ≡ t) (at : i ≡ ino) where
  pub used_here : is_used t ino ≡ true → is_used (stored units slots) i ≡ true
  used_here used = ap (is_used (stored units slots)) at ∙ ap (λ (x : Table). is_used x ino) is ∙ used

  pub used_slot : is_used t ino ≡ true → i < length slots
  used_slot used = used_within slots i (used_here used)

  pub set_inode : (x : Inode) → i < length slots → stored units (set slots i (Some x)) ≡ with_inode t ino x
  set_inode x h =
      ap (with_inodes units) (set_some slots i x h)
      ∙ ap (λ (s : Table). with_inode s i x) is ∙ ap (λ (n : ℕ). with_inode t n x) at

  pub clear_inode : i < length slots → stored units (set slots i None) ≡ without_inode t ino
  clear_inode h =
      ap (with_inodes units) (set_none slots i h)
      ∙ ap (λ (s : Table). without_inode s i) is ∙ ap (λ (n : ℕ). without_inode t n) at

  -- what is read from a slot
  pub read_inode : (o : Option Inode) → i < length slots → o ≡ get_or slots i o → inode_at t ino ≡ o
  read_inode o h e = sym (ap (inode_at (stored units slots)) at ∙ ap (λ (x : Table). inode_at x ino) is) ∙ get_within slots i o h ∙ sym e

module _ (units lowest : ℕ) (slots : List (Option Inode)) (i : ℕ) (k : IsKept (stored units slots) lowest) (h : i < length slots) where
  pub kept_set : (x : Inode) → 2 ≤ i → i < 128 * units → x.nlink ≤ 32767 → IsKept (stored units (set slots i (Some x))) lowest
  kept_set x low high links = subst (λ (t : Table). IsKept t lowest) (sym (set_inode units slots i i (stored units slots) refl refl x h)) (kept_with (stored units slots) lowest i k x low high links)

  pub kept_clear : (next : ℕ) → 3 ≤ next → next ≤ lowest → (3 ≤ i → next ≤ i) → IsKept (stored units (set slots i None)) next
  kept_clear next from below at = subst (λ (t : Table). IsKept t next) (sym (clear_inode units slots i i (stored units slots) refl refl h)) (kept_without (stored units slots) lowest i k next from below at)
