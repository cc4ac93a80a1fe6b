-- Why an image is not mounted.
use Rattle.std.specs.Prelude.{◌<◌, IfSome}
use Rattle.vx_said.specs.Plain.{IsPlainIfFile}
use Rattle.std.proofs.Common.{subst, ◌≡◌, ℕ, ◌≤◌, true, false, List, get_or, Option, Some, None, refl, sym, ap, ◌∙◌, arith}
use Rattle.vx_base.specs.Faults.{Rose}
use Rattle.vx_base.specs.declared.inode.InodeValue.{InodeValue}
use Rattle.vx_dev.specs.Tape as dev
use Rattle.vx_dev.specs.Tape.{Tape, now}
use Rattle.vx_layout.specs.Supers.{volume_of}
use Rattle.vx_check.specs.Links.{AreInodes}
use Rattle.vx_check.specs.Loading.{HasOnlyRead}
use Rattle.vx_check.specs.Parts.{IsStopped}
use Rattle.vx_check.specs.declared.stop.Stop.{Stop}
use Rattle.vx_check.specs.declared.stop.Stop.TheVariants as stop
use Rattle.vx_sound.specs.Said.{inode_said}
use Rattle.vx_sound.specs.Sound.{IsBadMeta, IsSound}
use Rattle.vx_replay.specs.ImageChecks.{CanMount, HasCleanFront, IsFault}
use Rattle.vx_replay.specs.LogReads.{IsRead, Shows}
use Rattle.vx_replay.specs.declared.image_check.CheckRefusal.TheVariants as check
use Rattle.vx_replay.specs.declared.image_check.CleanFront.{CleanFront}
use Rattle.vx_load.specs.Loads.{HasBytesAt, IsRefused, refusal_of}
use Rattle.vx_load.specs.Plain.{IsHeldAt, is_plain}
use Rattle.vx_load.proofs.Listing.{PassesLaw, ok_super}
use Rattle.vx_load.proofs.Plainness.{held, plain_slot}

abbrev pub BadLaw : Type 0
BadLaw = (size : ℕ) (image : ℕ → List ℕ) (c : CleanFront) (sector : ℕ) → CanMount size c → HasCleanFront size image c → IsBadMeta true (volume_of c.superblock) image sector → IsFault true size image (check.BadMeta sector)

pub unsound : (bad : BadLaw) (d e : dev.State) (front : CleanFront) → CanMount d.size front → ((t : Tape) → Shows d t → HasCleanFront d.size (now t) front) → (why : Stop) → ((t : Tape) → Shows d t → IsStopped true (volume_of front.superblock) (now t) why)
    → (why ≡ stop.ReadFault → Rose d.read_faults e.read_faults) → IsRefused d e (refusal_of why)
unsound bad d e front can clean (stop.BadMeta sector) stops cause = (λ t shown. bad d.size (now t) front sector can (clean t shown) (stops t shown), λ is. absurd (cc))
unsound bad d e front can clean stop.ReadFault stops cause = (λ t shown. tt, λ is. cause refl)
unsound bad d e front can clean stop.NoMemory stops cause = (λ t shown. tt, λ is. absurd (cc))

-- a count that rose later rose
pub rose_later : (a b c : ℕ) → a ≤ b → Rose b c → Rose a c
rose_later a b c le rose = omega (arith, le, rose)

-- what shows an image still does so once it was read
pub still_shows : (d e : dev.State) (t : Tape) → IsRead d e → Shows d t → Shows e t
still_shows d e t read shown = record { told = read.told ∙ shown.told; certain = read.doubt ∙ shown.certain }

pub read_on : (d e f : dev.State) → IsRead d e → HasOnlyRead e f → IsRead d f
read_on d e f one two = record {
  told = two.told ∙ one.told;
  count = two.count ∙ one.count;
  doubt = two.doubt ∙ one.doubt;
  size = two.size ∙ one.size;
  writes = two.write_faults ∙ one.writes;
  reads = (let first = one.reads in let second = two.read_faults in omega (arith, first, second));
}

module _ (passes : PassesLaw) (size : ℕ) (image : ℕ → List ℕ) (front : CleanFront) (can : CanMount size front) (clean : HasCleanFront size image front)
    (inodes : List (Option InodeValue)) (are : AreInodes inodes (volume_of front.superblock) image) (sound : IsSound true (volume_of front.superblock) image) (ino : ℕ)
  where
    plain_before : ((k : ℕ) → k < ino → is_plain (get_or inodes k None) ≡ true) → (k : ℕ) → k < ino → IfSome (inode_said (volume_of front.superblock) image k) (λ i. IsPlainIfFile i.inode.kind i)
    plain_before before k lt = subst (λ (o : Option InodeValue). IfSome o (λ i. IsPlainIfFile i.inode.kind i)) (are k) (plain_slot (get_or inodes k None) (before k lt))

    of_slot : (o : Option InodeValue) → is_plain o ≡ false → ((k : ℕ) → k < ino → is_plain (get_or inodes k None) ≡ true) → inode_said (volume_of front.superblock) image ino ≡ o → HasBytesAt size image ino
    of_slot None bytes before said = absurd (cc)
    of_slot (Some i) bytes before said =
        let why = held i.inode.kind i bytes in
        record {
          superblock = front.superblock;
          first_is = clean.front.first_is ∙ ap ok_super clean.first;
          passes = passes size image front can clean sound;
          value = i;
          said = said;
          file = why.0;
          held = why.1;
          first = plain_before before;
        }

    pub bytes_at : IsHeldAt inodes ino → HasBytesAt size image ino
    bytes_at is = of_slot (get_or inodes ino None) is.here is.before (sym (are ino))
