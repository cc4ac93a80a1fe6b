-- What a crash leaves of a stopped image, whatever of its log is written home, replays as the same tree.
use Rattle.std.proofs.Common.{◌≡◌, ◌⊎◌, ℕ, zero, suc, ◌+◌, ◌*◌, ◌<◌, ◌≤◌, ◌^◌, Bool, true, false, List, [], ◌∷◌, ◌++◌, length, get_or, Option, Some, None, refl, sym, ap, subst, ◌∙◌, arith, inl, inr, Contains}
use Rattle.std.specs.Prelude.{◌||◌, ◌==◌, nat_le, IsTrue, All, unwrap_or}
use Rattle.std.specs.List.{AllByRecursion}
use Rattle.std.specs.List.Sorted.{IsStrictlyIncreasing}
use Rattle.std.proofs.lemmas.Bool.{eqb-true, le-leb, leb-true}
use Rattle.std.proofs.lemmas.List.Elements.{All-nil, All-cons, All-get_or, All-from_get_or}
use Rattle.vx_dev.specs.Tape.{Tape, MayHold}
use Rattle.vx_layout.specs.declared.superblock.Super.{Super}
use Rattle.vx_layout.specs.LogForms.{AfterImage, IsNameable, IsRecord, LogState, ReadsAs, homes_of, log_at, overlay, overlay_all}
use Rattle.vx_layout.specs.Places.{sectors_of}
use Rattle.vx_layout.specs.Supers.{IsSuper, super_bytes, volume_of}
use Rattle.vx_log.specs.Batches as batches
use Rattle.vx_log.specs.Crashes.{Stands, IsPutHome, emptied}
use Rattle.vx_log.specs.Stages.{AreHomes, AreWritten, AreHomesPut}
use Rattle.vx_log.specs.Logs.{next_serial}
use Rattle.vx_log.specs.Batches.{with_notes, noted_at}
use Rattle.vx_log.specs.NoteLaws.{NoteLaws}
use Rattle.vx_replay.specs.Holding.{HoldsTree}
use Rattle.vx_model.specs.Replays.{HasRecords, ReplaysAs}
use Rattle.vx_model.specs.Tree.{Tree}
use Rattle.vx_replay.specs.ReplayLaws.{ReplayLaws}
use Rattle.vx_replay.specs.Stopped.{IsReadFrom, noted_all}
use Rattle.vx_replay.specs.declared.load.Stopped.{Stopped}

-- ---- sectors

abbrev pub is_home : ℕ → ℕ → Bool
is_home n q = (q == 0) || nat_le (4 + n) q

or_second : (a b : Bool) → b ≡ true → (a || b) ≡ true
or_second true b e = refl
or_second false b e = e

pub above_home : (n q : ℕ) → 4 + n ≤ q → IsTrue (is_home n q)
above_home n q le = or_second (q == 0) (nat_le (4 + n) q) (le-leb (4 + n) q le)

-- ---- what is noted of a sector

-- what is noted is what these records make of it
abbrev pub IsNoteOf : List (List AfterImage) → ℕ → Option (List ℕ) → Type 0
IsNoteOf rs q None = (x : List ℕ) → overlay_all rs q x ≡ x
IsNoteOf rs q (Some image) = (x : List ℕ) → overlay_all rs q x ≡ image

overlay_all-append : (rs qs : List (List AfterImage)) (s : ℕ) (x : List ℕ) → overlay_all (rs ++ qs) s x ≡ overlay_all qs s (overlay_all rs s x)
overlay_all-append [] qs s x = refl
overlay_all-append (r ∷ rs) qs s x = overlay_all-append rs qs s (overlay r s x)

module _ (notes : NoteLaws) where
  note_more : (homes : List AfterImage) (rs : List (List AfterImage)) (r : List AfterImage) (q : ℕ) → IsStrictlyIncreasing (homes_of r) → IsNoteOf rs q (noted_at homes q) → IsNoteOf (rs ++ r ∷ []) q (noted_at (with_notes homes r) q)
  note_more homes rs r q rising before = by_note (noted_at r q) refl
    where
      by_note : (o : Option (List ℕ)) → noted_at r q ≡ o → IsNoteOf (rs ++ r ∷ []) q (noted_at (with_notes homes r) q)
      by_note (Some image) is = subst (IsNoteOf (rs ++ r ∷ []) q) (sym (notes.batch homes r q image rising is))
          (λ x. overlay_all-append rs (r ∷ []) q x ∙ notes.overlay_has r q image (overlay_all rs q x) rising is)
      by_note None is = subst (IsNoteOf (rs ++ r ∷ []) q) (sym (notes.batch_other homes r q is)) (still (noted_at homes q) before)
        where
          still : (o : Option (List ℕ)) → IsNoteOf rs q o → IsNoteOf (rs ++ r ∷ []) q o
          still None h = λ x. overlay_all-append rs (r ∷ []) q x ∙ notes.overlay_lacks r q (overlay_all rs q x) is ∙ h x
          still (Some image) h = λ x. overlay_all-append rs (r ∷ []) q x ∙ notes.overlay_lacks r q (overlay_all rs q x) is ∙ h x

  group : (rs : List (List AfterImage)) (r : List AfterImage) (qs : List (List AfterImage)) → (rs ++ r ∷ []) ++ qs ≡ rs ++ (r ∷ qs)
  group [] r qs = refl
  group (p ∷ rs) r qs = ap (λ (l : List (List AfterImage)). p ∷ l) (group rs r qs)

  module _ (n size : ℕ) where
    notes_of : (homes : List AfterImage) (rs qs : List (List AfterImage)) (q : ℕ) → AllByRecursion (IsRecord n size) qs → IsNoteOf rs q (noted_at homes q) → IsNoteOf (rs ++ qs) q (noted_at (noted_all homes qs) q)
    notes_of homes rs [] q form before = subst (λ (l : List (List AfterImage)). IsNoteOf l q (noted_at homes q)) (none rs) before
      where
        none : (l : List (List AfterImage)) → l ≡ l ++ []
        none [] = refl
        none (p ∷ l) = ap (λ (m : List (List AfterImage)). p ∷ m) (none l)
    notes_of homes rs (r ∷ qs) q form before =
        subst (λ (l : List (List AfterImage)). IsNoteOf l q (noted_at (noted_all (with_notes homes r) qs) q)) (group rs r qs)
        (notes_of (with_notes homes r) (rs ++ r ∷ []) qs q form.1 (note_more homes rs r q form.0.rising before))

    pub noted_by : (rs : List (List AfterImage)) (q : ℕ) → AllByRecursion (IsRecord n size) rs → IsNoteOf rs q (noted_at (noted_all [] rs) q)
    noted_by rs q form = notes_of [] [] rs q form (λ x. refl)

    pub rising_all : (homes : List AfterImage) (rs : List (List AfterImage)) → IsStrictlyIncreasing (batches.sectors_of homes) → IsStrictlyIncreasing (batches.sectors_of (noted_all homes rs))
    rising_all homes [] h = h
    rising_all homes (r ∷ rs) h = rising_all (with_notes homes r) rs (notes.rising homes r h)

    home_each : (r : List AfterImage) → AllByRecursion (IsNameable n size) (homes_of r) → All (λ e. IsTrue (is_home n e.0)) r
    home_each [] h = All-nil (λ (e : AfterImage). IsTrue (is_home n e.0))
    home_each (e ∷ r) h = All-cons (λ (e : AfterImage). IsTrue (is_home n e.0)) e r (home_one e.0 h.0) (home_each r h.1)
      where
        home_one : (q : ℕ) → IsNameable n size q → IsTrue (is_home n q)
        home_one q is = elim is.home [ inl zero_ ↦ subst (λ (k : ℕ). IsTrue (is_home n k)) (sym zero_) refl | inr high ↦ above_home n q high ]

    pub home_all : (homes : List AfterImage) (rs : List (List AfterImage)) → AllByRecursion (IsRecord n size) rs → All (λ e. IsTrue (is_home n e.0)) homes → All (λ e. IsTrue (is_home n e.0)) (noted_all homes rs)
    home_all homes [] form h = h
    home_all homes (r ∷ rs) form h = home_all (with_notes homes r) rs form.1 (notes.all (λ e. is_home n e.0) homes r h (home_each r form.0.homes))

-- ---- lists

place_of_sector : (homes : List AfterImage) (q : ℕ) → Contains (batches.sectors_of homes) q → (j : ℕ) × ((j < length homes) × ((d : AfterImage) → (get_or homes j d).0 ≡ q))
place_of_sector [] q (k, lt, is) = absurd (omega (arith, lt))
place_of_sector (e ∷ homes) q (zero, lt, is) = (zero, (omega arith, λ d. is))
place_of_sector (e ∷ homes) q (suc k, lt, is) = let rest = place_of_sector homes q (k, omega (arith, lt), is) in (suc rest.0, (omega (arith, rest.1.0), rest.1.1))

one_of_two : (a b x : List ℕ) → Contains (a ∷ b ∷ []) x → (a ≡ x) ⊎ (b ≡ x)
one_of_two a b x (zero, lt, is) = inl is
one_of_two a b x (suc zero, lt, is) = inr is
one_of_two a b x (suc (suc k), lt, is) = absurd (omega (arith, lt))

-- the superblock, clean or not
abbrev pub marked : Super → Bool → Super
marked s b = record { log_blocks = s.log_blocks; units = s.units; clean = b }

pub marked_super : (s : Super) (b : Bool) → IsSuper s → IsSuper (marked s b)
marked_super s b is = record { log_low = is.log_low; log_high = is.log_high; units_low = is.units_low; units_high = is.units_high }

-- ---- images

module _ (laws : ReplayLaws) (tree : Tree) (size : ℕ) (sb first : Super) (same_log : sb.log_blocks ≡ first.log_blocks) (is_super : IsSuper sb) (room : sectors_of (volume_of sb) ≤ size) (over : ℕ → List ℕ)
    (holds : HoldsTree (volume_of sb) over tree) where
  -- an image with such a log and such superblocks
  pub good : (r : LogState) (b : Bool) (image : ℕ → List ℕ) → r.serial < 2 ^ 64 → r.head ≤ 2 ^ 62 → AllByRecursion (IsRecord (2 * first.log_blocks) size) r.records
      → ((q : ℕ) → 4 + 2 * first.log_blocks ≤ q → IsTrue (r.is_metadata q)) → ((q : ℕ) → r.contents q ≡ over q) → ReadsAs (2 * first.log_blocks) r image
      → overlay_all r.records 0 (image 0) ≡ super_bytes (marked sb b) → (v : Super) → IsSuper v → image 0 ≡ super_bytes v → sectors_of (volume_of v) ≤ size → v.log_blocks ≡ first.log_blocks → ReplaysAs size image tree
  good r b image serial limit form above contents rd last v is_v first_is room_v same =
      let log : HasRecords (2 * first.log_blocks) size image r.records = record {
        serial = r.serial;
        tail = r.tail;
        head = r.head;
        serial_limit = serial;
        limit = limit;
        form = form;
        head_is = rd.head_is;
        ends = rd.ends;
        fits = rd.fits;
        whole = rd.whole;
      } in
      let alike : HoldsTree (volume_of sb) (λ q. overlay_all r.records q (image q)) tree =
      laws.alike (volume_of sb) over (λ q. overlay_all r.records q (image q)) tree (laws.volume sb)
      (λ q place. sym (rd.metadata q (above q (let past : 4 + 2 * sb.log_blocks ≤ q = laws.past_log sb q place in omega (arith, past, same_log))) ∙ contents q)) holds in
      record {
        first = v;
        is_first = is_v;
        first_is = first_is;
        first_room = room_v;
        records = r.records;
        superblock = marked sb b;
        is_super = marked_super sb b is_super;
        superblock_is = last;
        same_log = same_log ∙ sym same;
        room = room;
        log = subst (λ (k : ℕ). HasRecords (2 * k) size image r.records) (sym same) log;
        sound = alike.sound;
        reads = alike.reads;
      }

module _ (laws : ReplayLaws) (size : ℕ) (image : ℕ → List ℕ) (tree : Tree) (s : Stopped) (read : IsReadFrom size image s) (is_super : IsSuper s.superblock) where
  abbrev pub n : ℕ
  n = 2 * read.first.log_blocks

  abbrev pub over : ℕ → List ℕ
  over q = overlay_all read.records q (image q)

  abbrev pub r0 : LogState
  r0 = record { serial = read.ends.serial; tail = read.ends.tail; head = read.ends.head; records = read.records; is_metadata = is_home n; contents = over }

  abbrev pub values : List (List ℕ)
  values = image 0 ∷ over 0 ∷ []

  pub some : 0 < n
  some = let low : 256 ≤ read.first.log_blocks = read.is_first.log_low in omega (arith, low)

  -- ---- the tape, once one image is left

  pub stands_first : (t : Tape) → ((q : ℕ) (x : List ℕ) → MayHold t q x → x ≡ image q) → Stands n r0 t
  stands_first t one = record {
    holds = record {
      apart = λ q there. by_test q (q == 0) refl there;
      ends = read.are.ends;
      fits = read.is_ends.fits;
      whole = λ i x lt may. one (log_at n (read.ends.tail + i)) x may ∙ read.stand i lt;
      metadata = λ q x there may. ap (overlay_all read.records q) (one q x may);
    };
    head_is = λ x may. one 2 x may ∙ read.head_is;
  }
    where
      by_test : (q : ℕ) (b : Bool) → (q == 0) ≡ b → IsTrue (b || nat_le (4 + n) q) → (q ≡ 0) ⊎ (4 + n ≤ q)
      by_test q true is there = inl (eqb-true q 0 is)
      by_test q false is there = inr (leb-true (4 + n) q there)

  -- ---- the homes

  homes_rise : IsStrictlyIncreasing (batches.sectors_of s.homes)
  homes_rise = subst (λ (l : List AfterImage). IsStrictlyIncreasing (batches.sectors_of l)) (sym read.homes) (rising_all laws.notes n size [] read.records (λ k lt. absurd (omega (arith, lt))))

  homes_are : All (λ e. IsTrue (is_home n e.0)) s.homes
  homes_are = subst (All (λ e. IsTrue (is_home n e.0))) (sym read.homes) (home_all laws.notes n size [] read.records read.are.form (All-nil (λ (e : AfterImage). IsTrue (is_home n e.0))))

  noted : (q : ℕ) → IsNoteOf read.records q (noted_at s.homes q)
  noted q = subst (λ (l : List AfterImage). IsNoteOf read.records q (noted_at l q)) (sym read.homes) (noted_by laws.notes n size read.records q read.are.form)

  note_at : (k : ℕ) (d : AfterImage) → k < length s.homes → (x : List ℕ) → overlay_all read.records (get_or s.homes k d).0 x ≡ (get_or s.homes k d).1
  note_at k d lt =
      let w : AfterImage = get_or s.homes k d in
      subst (IsNoteOf read.records w.0) (laws.notes.stands s.homes k d w.0 w.1 homes_rise lt refl) (noted w.0)

  pub are_homes : AreHomes r0 s.homes
  are_homes = record {
    is_metadata = λ k d lt. All-get_or (λ (e : AfterImage). IsTrue (is_home n e.0)) s.homes k d lt homes_are;
    decided = λ k d lt x y. note_at k d lt x ∙ sym (note_at k d lt y);
    contents = λ k d lt. sym (note_at k d lt (image (get_or s.homes k d).0));
  }

  pub are_put : (t : Tape) → AreWritten n r0 s.homes t → AreHomesPut n r0 t
  are_put t w = record { stands = w.stands; put = λ q there. by_note q (noted_at s.homes q) refl }
    where
      by_note : (q : ℕ) (o : Option (List ℕ)) → noted_at s.homes q ≡ o → ((x : List ℕ) → overlay_all read.records q x ≡ x) ⊎ IsPutHome r0 q t
      by_note q None is = inl (subst (IsNoteOf read.records q) is (noted q))
      by_note q (Some bytes) is =
          let there = place_of_sector s.homes q (laws.notes.contains s.homes q bytes is) in
          let d : ℕ × List ℕ = (0, []) in
          inr (subst (λ (u : ℕ). IsPutHome r0 u t) (there.1.1 d) (w.home there.0 d there.1.0))

  -- what is written home into sector 0
  pub among : (k : ℕ) (d : ℕ × List ℕ) → k < length s.homes → (get_or s.homes k d).0 ≡ 0 → Contains values (get_or s.homes k d).1
  among k d lt zero_ =
      let bytes : over 0 ≡ (get_or s.homes k d).1 = sym (sym (note_at k d lt (image (get_or s.homes k d).0)) ∙ ap over zero_) in
      (1, omega arith, bytes)

  -- ---- images

  module _ (holds : HoldsTree (volume_of s.superblock) over tree) where
    super_of : (x : List ℕ) → Contains values x → (v : Super) × IsSuper v × (x ≡ super_bytes v) × (sectors_of (volume_of v) ≤ size) × (v.log_blocks ≡ read.first.log_blocks)
    super_of x has = elim (one_of_two (image 0) (over 0) x has) [
      | inl start ↦ (read.first, read.is_first, sym start ∙ read.first_is, read.first_room, refl)
      | inr last ↦ (s.superblock, is_super, sym last ∙ read.superblock_is, read.room, read.same_log)
    ]

    pub good_before : (other : ℕ → List ℕ) → ReadsAs n r0 other → Contains values (other 0) → ReplaysAs size other tree
    good_before other rd has =
        let v = super_of (other 0) has in
        good laws tree size s.superblock read.first read.same_log is_super read.room over holds r0 s.superblock.clean other read.is_ends.serial read.is_ends.limit read.are.form (above_home n) (λ q. refl) rd
        (rd.metadata 0 refl ∙ read.superblock_is) v.0 v.1 v.2 v.3 v.4

    pub good_after : (other : ℕ → List ℕ) → ReadsAs n (emptied r0) other → ReplaysAs size other tree
    good_after other rd =
        let last : other 0 ≡ super_bytes s.superblock = rd.metadata 0 refl ∙ read.superblock_is in
        let low : next_serial read.ends.serial < 2 ^ 64 = omega arith in
        good laws tree size s.superblock read.first read.same_log is_super read.room over holds (emptied r0) s.superblock.clean other low read.is_ends.limit tt (above_home n) (λ q. refl) rd
        last s.superblock is_super last read.room read.same_log

-- ---- on a device of so many sectors

module _ (notes : NoteLaws) (n size : ℕ) where
  inside_each : (r : List AfterImage) → AllByRecursion (IsNameable n size) (homes_of r) → All (λ e. (0 ≤ e.0) × (e.0 < size)) r
  inside_each [] h = All-nil (λ (e : AfterImage). (0 ≤ e.0) × (e.0 < size))
  inside_each (e ∷ r) h = All-cons (λ (e : AfterImage). (0 ≤ e.0) × (e.0 < size)) e r (omega arith, h.0.inside) (inside_each r h.1)

  inside_notes : (homes : List AfterImage) (rs : List (List AfterImage)) → AllByRecursion (IsRecord n size) rs → All (λ e. (0 ≤ e.0) × (e.0 < size)) homes → All (λ e. (0 ≤ e.0) × (e.0 < size)) (noted_all homes rs)
  inside_notes homes [] form h = h
  inside_notes homes (r ∷ rs) form h = inside_notes (with_notes homes r) rs form.1 (notes.inside 0 size homes r h (inside_each r form.0.homes))

  pub inside_all : (rs : List (List AfterImage)) → AllByRecursion (IsRecord n size) rs → All (λ e. e.0 < size) (noted_all [] rs)
  inside_all rs form =
      let none : AfterImage = (0, []) in
      All-from_get_or (λ (e : AfterImage). e.0 < size) (noted_all [] rs) none
      (λ i lt. (All-get_or (λ (e : AfterImage). (0 ≤ e.0) × (e.0 < size)) (noted_all [] rs) i none lt (inside_notes [] rs form (All-nil (λ (e : AfterImage). (0 ≤ e.0) × (e.0 < size))))).1)

-- what is noted of a sector, or what it holds, is what the records make of it
pub note_is : (rs : List (List AfterImage)) (q : ℕ) (o : Option (List ℕ)) (x : List ℕ) → IsNoteOf rs q o → unwrap_or o x ≡ overlay_all rs q x
note_is rs q None x h = sym (h x)
note_is rs q (Some image) x h = sym (h x)
