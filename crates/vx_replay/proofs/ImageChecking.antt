-- What was read of an image, and whether it passes its check.
use Rattle.std.proofs.Common.{◌≡◌, ℕ, ◌+◌, ◌*◌, ◌≤◌, Bool, true, false, List, [], ◌∷◌, length, refl, sym, ap, subst, ◌∙◌, inl, inr, arith}
use Rattle.std.specs.Prelude.{◌==◌, ◌&&◌, ◌||◌, not, Option, Some, None, Result, Ok, unwrap_or}
use Rattle.std.specs.List.Sorted.{IsStrictlyIncreasing}
use Rattle.std.proofs.lemmas.Bool.{le-ltb, eq-eqb, eqb-true}
use Rattle.vx_layout.specs.declared.superblock.Super.{Super}
use Rattle.vx_layout.specs.declared.superblock.BadSuper.{BadSuper}
use Rattle.vx_layout.specs.LogForms.{AfterImage, log_sectors, overlay, overlay_all}
use Rattle.vx_layout.specs.Places.{sectors_of}
use Rattle.vx_layout.specs.Supers.{IsSuper, super_at, super_bytes, volume_of}
use Rattle.vx_log.specs.Batches.{sectors_of as names_of, noted_at}
use Rattle.vx_log.specs.NoteLaws.{NoteLaws}
use Rattle.vx_replay.specs.BadImages.{bad, with_room, with_log, checked_again, first_super, IsBadLog}
use Rattle.vx_replay.specs.Fronts.{CanLoad, IsFrontOf}
use Rattle.vx_replay.specs.Stopped.{IsReadFrom}
use Rattle.vx_sound.specs.Sound.{IsSound, IsBadMeta}
use Rattle.vx_replay.specs.ImageChecks.{CanMount, HasCleanFront, HasFront, HasLast, HasBadMeta, IsFault, IsPassed, LeavesBadSuper, PassesCheck, laid, meta_refusal, refusal_of}
use Rattle.vx_check.specs.Parts.{IsStopped}
use Rattle.vx_check.specs.declared.stop.Stop.{Stop}
use Rattle.vx_check.specs.declared.stop.Stop.TheVariants as stop
use Rattle.vx_layout.specs.Places.{Volume}
use Rattle.vx_replay.specs.declared.image_check.Checked.{Checked}
use Rattle.vx_replay.specs.declared.image_check.CheckRefusal.TheVariants as no
use Rattle.vx_replay.specs.declared.image_check.CleanFront.{CleanFront}
use Rattle.vx_dev.specs.Tape.{State}
use Rattle.vx_replay.specs.Refusals.{ReadCause, SuperCause}
use Rattle.vx_replay.specs.declared.refusal.ReplayRefusal.{ReplayRefusal}
use Rattle.vx_replay.specs.declared.refusal.ReplayRefusal.TheVariants as cannot
use Rattle.vx_replay.specs.declared.load.Front.{Front}
use Rattle.vx_replay.specs.declared.load.Stopped.{Stopped}
use Rattle.vx_replay.proofs.Loading.{length_counts}
use Rattle.vx_replay.proofs.Reread as reread

-- ---- the superblock and the log

-- as they were read first
abbrev pub front_of : (strict : Bool) (size : ℕ) (image : ℕ → List ℕ) (f : Front) → CanLoad size f → IsFrontOf size image f → (strict ≡ true → f.log.ends.tail ≡ f.log.ends.head) → (strict ≡ true → f.first.clean ≡ true) → HasFront strict size image
front_of strict size image f can is level clean = record {
  first = f.first;
  first_is = is.checked;
  records = f.log.records.items;
  log = record { ends = f.log.ends; is_ends = can.ends; head_is = is.head_is; are = can.are; stand = is.stand };
  level = level;
  clean = clean;
}

pub ok_same : (v w : Super) → ◌≡◌ {A = Result Super BadSuper} (Ok v) (Ok w) → v ≡ w
ok_same v w e = cc

-- as they were read with the rest
abbrev pub front_read : (strict : Bool) (size : ℕ) (image : ℕ → List ℕ) (f : Front) (s : Stopped) → IsFrontOf size image f → IsReadFrom size image s → s.log.tail ≡ f.log.ends.tail → s.log.head ≡ f.log.ends.head
    → (strict ≡ true → f.log.ends.tail ≡ f.log.ends.head) → (strict ≡ true → f.first.clean ≡ true) → HasFront strict size image
front_read strict size image f s is r tail head level clean = record {
  first = r.first;
  first_is = r.checked;
  records = r.records;
  log = record { ends = r.ends; is_ends = r.is_ends; head_is = r.head_is; are = r.are; stand = r.stand };
  level = λ e. sym r.tail ∙ tail ∙ level e ∙ sym head ∙ r.head;
  clean = λ e. ap (λ (v : Super). v.clean) (ok_same r.first f.first (sym r.checked ∙ is.checked)) ∙ clean e;
}

-- ---- the superblock that the records leave

pub last_of : (size : ℕ) (first last : Super) (x : List ℕ) → ((v : Super) → IsSuper v → super_at (super_bytes v) ≡ Ok v) → IsSuper last → x ≡ super_bytes last → last.log_blocks ≡ first.log_blocks
    → sectors_of (volume_of last) ≤ size → checked_again size first.log_blocks x ≡ Ok last
last_of size first last x again is here log room =
    let read : super_at x ≡ Ok last = ap super_at here ∙ again last is in
    let level : with_log first.log_blocks x (Ok last) ≡ Ok last = rw (eq-eqb last.log_blocks first.log_blocks log) refl in
    let fits : with_room size (Ok last) ≡ Ok last = rw (le-ltb size (sectors_of (volume_of last)) room) refl in
    ap (λ (o : Result Super BadSuper). with_room size (with_log first.log_blocks x o)) read ∙ ap (with_room size) level ∙ fits

-- ---- the metadata

overlay_noted : NoteLaws → (homes : List AfterImage) (s : ℕ) (x : List ℕ) → IsStrictlyIncreasing (names_of homes) → overlay homes s x ≡ unwrap_or (noted_at homes s) x
overlay_noted notes homes s x rising = by_note (noted_at homes s) refl
  where
    by_note : (o : Option (List ℕ)) → noted_at homes s ≡ o → overlay homes s x ≡ unwrap_or o x
    by_note None is = notes.overlay_lacks homes s x is
    by_note (Some image) is = notes.overlay_has homes s image x rising is

-- what is noted of the records, laid over the image
pub laid_is : NoteLaws → (size : ℕ) (image : ℕ → List ℕ) (s : Stopped) (r : IsReadFrom size image s) → (λ (q : ℕ). overlay s.homes q (image q)) ≡ laid r.records image
laid_is notes size image s r = λ i q. pointwise q i
  where
    pointwise : (q : ℕ) → overlay s.homes q (image q) ≡ overlay_all r.records q (image q)
    pointwise q =
        let n : ℕ = 2 * r.first.log_blocks in
        let rising : IsStrictlyIncreasing (names_of s.homes) = subst (λ (l : List AfterImage). IsStrictlyIncreasing (names_of l)) (sym r.homes) (reread.rising_all notes n size [] r.records (λ k lt. absurd (omega (arith, lt)))) in
        let note : reread.IsNoteOf r.records q (noted_at s.homes q) = subst (λ (l : List AfterImage). reread.IsNoteOf r.records q (noted_at l q)) (sym r.homes) (reread.noted_by notes n size r.records q r.are.form) in
        overlay_noted notes s.homes q (image q) rising ∙ reread.note_is r.records q (noted_at s.homes q) (image q) note

-- ---- faults

pub unsettled : (strict clean : Bool) (tail head : ℕ) → (strict && (not (tail == head) || not clean)) ≡ true → (strict ≡ true) × (tail ≡ head → clean ≡ false)
unsettled true clean tail head is = (refl, λ e. not_clean clean (sym (rw (eq-eqb tail head e) refl) ∙ is))
  where
    not_clean : (b : Bool) → not b ≡ true → b ≡ false
    not_clean true h = absurd cc
    not_clean false h = refl
unsettled false clean tail head is = absurd cc

pub settled : (strict clean : Bool) (tail head : ℕ) → (strict && (not (tail == head) || not clean)) ≡ false → strict ≡ true → (tail ≡ head) × (clean ≡ true)
settled false clean tail head is strict = absurd cc
settled true clean tail head is strict = by_test (tail == head) clean refl is
  where
    by_test : (b c : Bool) → (tail == head) ≡ b → (not b || not c) ≡ false → (tail ≡ head) × (c ≡ true)
    by_test true true e h = (eqb-true tail head e, refl)
    by_test true false e h = absurd cc
    by_test false c e h = absurd cc

-- the reading of the superblock or the log was refused
pub fault_first : (old new : State) (strict : Bool) (size : ℕ) (image : ℕ → List ℕ) (why : ReplayRefusal) → ReadCause old new why → ((field : ℕ) → why ≡ cannot.BadSuper field → first_super size image ≡ bad field)
    → ((sector : ℕ) → why ≡ cannot.BadLog sector → IsBadLog size image sector) → IsFault strict size image (refusal_of why)
fault_first old new strict size image (cannot.BadSuper field) cause super log = inl (super field refl)
fault_first old new strict size image (cannot.BadLog sector) cause super log = log sector refl
fault_first old new strict size image (cannot.BadMeta sector) cause super log = absurd cause
fault_first old new strict size image cannot.ReadFault cause super log = tt
fault_first old new strict size image cannot.WriteFault cause super log = tt
fault_first old new strict size image cannot.NoMemory cause super log = tt

-- ... for nothing of its metadata
pub never_meta : (old new : State) (why : ReplayRefusal) (sector : ℕ) → ReadCause old new why → refusal_of why ≡ no.BadMeta sector → ⊥
never_meta old new (cannot.BadSuper field) sector cause is = absurd cc
never_meta old new (cannot.BadLog at) sector cause is = absurd cc
never_meta old new (cannot.BadMeta at) sector cause is = absurd cause
never_meta old new cannot.ReadFault sector cause is = absurd cc
never_meta old new cannot.WriteFault sector cause is = absurd cause
never_meta old new cannot.NoMemory sector cause is = absurd cc

-- what the records leave was refused
pub fault_last : (strict : Bool) (size : ℕ) (image : ℕ → List ℕ) (why : ReplayRefusal) → SuperCause why → ((field : ℕ) → why ≡ cannot.BadSuper field → LeavesBadSuper strict size image field) → IsFault strict size image (refusal_of why)
fault_last strict size image (cannot.BadSuper field) cause super = inr (super field refl)
fault_last strict size image (cannot.BadLog sector) cause super = absurd cause
fault_last strict size image (cannot.BadMeta sector) cause super = absurd cause
fault_last strict size image cannot.ReadFault cause super = absurd cause
fault_last strict size image cannot.WriteFault cause super = absurd cause
fault_last strict size image cannot.NoMemory cause super = tt

-- ---- the whole

module _ (notes : NoteLaws) (again : (v : Super) → IsSuper v → super_at (super_bytes v) ≡ Ok v) (strict : Bool) (size : ℕ) (image : ℕ → List ℕ) (f : Front) (s : Stopped)
    (is : IsFrontOf size image f) (r : IsReadFrom size image s) (is_super : IsSuper s.superblock) (tail : s.log.tail ≡ f.log.ends.tail) (head : s.log.head ≡ f.log.ends.head)
    (level : strict ≡ true → f.log.ends.tail ≡ f.log.ends.head) (clean : strict ≡ true → f.first.clean ≡ true) where
  abbrev pub whole_of : HasLast strict size image
  whole_of = record {
    front = front_read strict size image f s is r tail head level clean;
    last = s.superblock;
    last_is = last_of size r.first s.superblock (overlay_all r.records 0 (image 0)) again is_super r.superblock_is r.same_log r.room;
  }

  pub passed : IsSound strict (volume_of s.superblock) (laid r.records image) → (c : Checked) → c.superblock ≡ s.superblock → c.tail ≡ f.log.ends.tail → c.head ≡ f.log.ends.head → IsPassed strict size image c
  passed sound c superblock_is tail_is head_is = record {
    passes = record { whole = whole_of; sound = sound };
    superblock = superblock_is;
    tail = tail_is ∙ sym tail ∙ r.tail;
    head = head_is ∙ sym head ∙ r.head;
  }

  pub bad_meta : (sector : ℕ) → IsBadMeta strict (volume_of s.superblock) (laid r.records image) sector → HasBadMeta strict size image sector
  bad_meta sector first = record { whole = whole_of; first_fault = first }

-- what is read, where nothing has to be settled
module _ (again : (v : Super) → IsSuper v → super_at (super_bytes v) ≡ Ok v) (size : ℕ) (image : ℕ → List ℕ) (s : Stopped) (r : IsReadFrom size image s) (is_super : IsSuper s.superblock) where
  abbrev pub whole_read : HasLast false size image
  whole_read = record {
    front = record {
      first = r.first;
      first_is = r.checked;
      records = r.records;
      log = record { ends = r.ends; is_ends = r.is_ends; head_is = r.head_is; are = r.are; stand = r.stand };
      level = λ e. absurd cc;
      clean = λ e. absurd cc;
    };
    last = s.superblock;
    last_is = last_of size r.first s.superblock (overlay_all r.records 0 (image 0)) again is_super r.superblock_is r.same_log r.room;
  }

  pub passes_read : IsSound false (volume_of s.superblock) (laid r.records image) → PassesCheck false size image
  passes_read sound = record { whole = whole_read; sound = sound }

  pub fails_read : (sector : ℕ) → IsBadMeta false (volume_of s.superblock) (laid r.records image) sector → HasBadMeta false size image sector
  fails_read sector first = record { whole = whole_read; first_fault = first }

pub bad_there : (strict : Bool) (v : Volume) (image : ℕ → List ℕ) (why : Stop) (sector : ℕ) → meta_refusal why ≡ cannot.BadMeta sector → IsStopped strict v image why → IsBadMeta strict v image sector
bad_there strict v image (stop.BadMeta s) sector is h = subst (IsBadMeta strict v image) (let same : s ≡ sector = cc in same) h
bad_there strict v image stop.ReadFault sector is h = absurd cc
bad_there strict v image stop.NoMemory sector is h = absurd cc

-- ---- the front of a clean image

no_records : (tail head : ℕ) (rs : List (List AfterImage)) → head ≡ tail + length (log_sectors tail rs) → tail ≡ head → rs ≡ []
no_records tail head [] ends level = refl
no_records tail head (r ∷ rs) ends level = absurd (omega (arith, ends, level, length_counts tail (r ∷ rs)))

module _ (again : (v : Super) → IsSuper v → super_at (super_bytes v) ≡ Ok v) (size : ℕ) (image : ℕ → List ℕ) (c : CleanFront) (can : CanMount size c) (h : HasCleanFront size image c) where
  none : h.front.records ≡ []
  none = no_records h.front.log.ends.tail h.front.log.ends.head h.front.records h.front.log.are.ends (h.front.level refl)

  -- nothing is laid over it
  bare : laid h.front.records image ≡ image
  bare = λ i q. pointwise q i
    where
      pointwise : (q : ℕ) → overlay_all h.front.records q (image q) ≡ image q
      pointwise q = ap (λ (rs : List (List AfterImage)). overlay_all rs q (image q)) none

  pub clean_last : checked_again size h.front.first.log_blocks (laid h.front.records image 0) ≡ Ok h.front.first
  clean_last = last_of size h.front.first h.front.first (laid h.front.records image 0) again (subst IsSuper (sym h.first) can.is_super)
      (ap (λ (rs : List (List AfterImage)). overlay_all rs 0 (image 0)) none ∙ h.superblock_is ∙ ap super_bytes (sym h.first)) refl
      (subst (λ (v : Super). sectors_of (volume_of v) ≤ size) (sym h.first) can.room)

  abbrev pub clean_whole : HasLast true size image
  clean_whole = record { front = h.front; last = h.front.first; last_is = clean_last }

  pub clean_passes : IsSound true (volume_of c.superblock) image → PassesCheck true size image
  clean_passes sound = record {
    whole = clean_whole;
    sound = subst (IsSound true (volume_of h.front.first)) (sym bare) (subst (λ (v : Super). IsSound true (volume_of v) image) (sym h.first) sound);
  }

  pub clean_fails : (sector : ℕ) → IsBadMeta true (volume_of c.superblock) image sector → HasBadMeta true size image sector
  clean_fails sector first = record {
    whole = clean_whole;
    first_fault = subst (λ (over : ℕ → List ℕ). IsBadMeta true (volume_of h.front.first) over sector) (sym bare) (subst (λ (v : Super). IsBadMeta true (volume_of v) image sector) (sym h.first) first);
  }
