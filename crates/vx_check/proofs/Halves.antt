-- Slots that were read.
use Rattle.std.proofs.Common.{◌≡◌, ℕ, ◌%◌, ◌<◌, Bool, true, false, List, length, sym, ap, ◌∙◌, arith}
use Rattle.std.specs.Prelude.{Option, Some, None, cond, nat_lt}
use Rattle.std.specs.Option.{option_and_then}
use Rattle.std.proofs.lemmas.Bool.Decides.{nat_tests}
use Rattle.vx_base.specs.declared.inode.InodeValue.{InodeValue}
use Rattle.vx_layout.specs.Places.{Volume, inode_sector}
use Rattle.vx_layout.specs.Inodes.{layout1, IsSlot, slot_bytes, slot_at, half_of}
use Rattle.vx_sound.specs.Said.{Image, inode_count, inode_bytes_at, slot_said, inode_said}
use Rattle.vx_check.specs.Slots.{IsSlotRead}

module _ (v : Volume) (image : Image) (n : ℕ) (lt : n < inode_count v) (sector : List ℕ) (here : image (inode_sector v n) ≡ sector) (long : length sector ≡ 512) where
  bytes_are : inode_bytes_at v image n ≡ half_of sector (n % 2)
  bytes_are = ap (λ (s : List ℕ). half_of s (n % 2)) here

  said_is : (o : Option (Option InodeValue)) → o ≡ slot_at layout1 (half_of sector (n % 2)) → inode_said v image n ≡ option_and_then (λ s. s) o
  unfolding inode_said
  said_is o e =
      let t : nat_lt n (inode_count v) ≡ true = grind (arith, nat_tests) in
      ap (λ (b : Bool). cond b (option_and_then (λ s. s) (slot_said v image n)) None) t
      ∙ ap (option_and_then (λ s. s)) (ap (slot_at layout1) bytes_are ∙ sym e)

  pub good_slot : (o : Option InodeValue) → Some o ≡ slot_at layout1 (half_of sector (n % 2)) → half_of sector (n % 2) ≡ slot_bytes o
      → ((w : Option InodeValue) → IsSlot layout1 w → half_of sector (n % 2) ≡ slot_bytes w → w ≡ o) → IsSlotRead v image n o false
  good_slot o said spelled only = record {
    said = said_is (Some o) said;
    spelled = λ _. bytes_are ∙ spelled;
    whole = ap (λ (s : List ℕ). length s) here ∙ long;
    none = λ bad. absurd (cc);
    only = λ _ w is e. only w is (sym bytes_are ∙ e);
  }

  pub bad_slot : None ≡ slot_at layout1 (half_of sector (n % 2)) → ((w : Option InodeValue) → IsSlot layout1 w → half_of sector (n % 2) ≡ slot_bytes w → ⊥) → IsSlotRead v image n None true
  bad_slot said only = record {
    said = said_is None said;
    spelled = λ good. absurd (cc);
    whole = ap (λ (s : List ℕ). length s) here ∙ long;
    none = λ _ w is e. only w is (sym bytes_are ∙ e);
    only = λ good. absurd (cc);
  }
