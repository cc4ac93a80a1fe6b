-- What a replay's steps on its device keep.
use Rattle.std.proofs.Common.{◌≡◌, ◌⊎◌, ℕ, ◌+◌, ◌*◌, ◌<◌, ◌≤◌, ◌^◌, Bool, List, [], ◌∷◌, length, Option, Some, None, refl, sym, ap, subst, ◌∙◌, arith, inl, inr, Contains, length-append}
use Rattle.std.specs.Prelude.{nat_le, IsTrue, IfSome, option_map}
use Rattle.std.proofs.lemmas.Bool.{cases_lt, le-leb, lt-leb, leb-true}
use Rattle.std.proofs.lemmas.List.{ext_get_or, take-append-le}
use Rattle.vx_dev.specs.declared.device.Operation.{Operation}
use Rattle.vx_dev.specs.declared.device.Operation.TheVariants.{Barrier}
use Rattle.vx_dev.specs.Tape.{Tape, State as Device, Did, did, upto, MayHold, now, IsImage}
use Rattle.vx_layout.specs.declared.superblock.Super.{Super}
use Rattle.vx_layout.specs.LogForms.{AfterImage, LogState, ReadsAs, log_at, log_sectors, overlay_all}
use Rattle.vx_layout.specs.Supers.{IsSuper, super_bytes, volume_of}
use Rattle.vx_log.specs.Crashes.{Stands, emptied}
use Rattle.vx_dev.specs.Moments.{Told, Always, Passed, HoldsOneOf}
use Rattle.vx_replay.specs.TailMoves.{IsReading}
use Rattle.vx_dev.specs.Runs.{did_all, Ran, BrokeOff, puts}
use Rattle.vx_log.specs.Stages.{AreWritten, AreHomesPut}
use Rattle.vx_dev.proofs.Claims.{passed_join, passed_still, passed_weaker, told_weaker}
use Rattle.vx_replay.specs.Holding.{HoldsTree}
use Rattle.vx_model.specs.Replays.{HasRecords, ReplaysAs}
use Rattle.vx_model.specs.Tree.{Tree}
use Rattle.vx_replay.specs.ReplayLaws.{ReplayLaws}
use Rattle.vx_replay.specs.LogReads.{IsRead, Shows}
use Rattle.vx_replay.specs.Stopped.{IsReadFrom, IsReplayOf, IsEmptied}
use Rattle.vx_replay.specs.declared.load.Stopped.{Stopped}
use Rattle.vx_replay.proofs.LogReading.{still_shows}
use Rattle.vx_replay.proofs.Reread as reread

-- ---- what is told

told_at : (d : Device) (P : Tape → Type 0) (t : Tape) → d.told ≡ Some t → P t → Told d P
told_at d P t is h = subst (λ (o : Option Tape). IfSome o P) (sym is) h

at_told : (d : Device) (P : Tape → Type 0) (t : Tape) → d.told ≡ Some t → Told d P → P t
at_told d P t is h = subst (λ (o : Option Tape). IfSome o P) is h

some_same : (a b : Tape) → Some a ≡ Some b → a ≡ b
some_same a b e = cc

-- two claims on the same moments
pub passed_both : (Q R : (ℕ → List ℕ) → Type 0) (a b : Device) (t : Tape) → a.told ≡ Some t → Passed Q a b → Passed R a b → Passed (λ image. Q image × R image) a b
passed_both Q R a b t is p q =
    let first : did_all p.ops t ≡ did_all q.ops t = some_same (did_all p.ops t) (did_all q.ops t)
    (ap (option_map (did_all p.ops)) (sym is) ∙ sym p.told ∙ q.told ∙ ap (option_map (did_all q.ops)) is) in
    let one : Always (length t.ops) (λ _ image. Q image) (did_all p.ops t) = at_told a (λ u. Always (length u.ops) (λ _ image. Q image) (did_all p.ops u)) t is p.always in
    let other : Always (length t.ops) (λ _ image. R image) (did_all p.ops t) =
    subst (Always (length t.ops) (λ _ image. R image)) (sym first) (at_told a (λ u. Always (length u.ops) (λ _ image. R image) (did_all q.ops u)) t is q.always) in
    record {
      ops = p.ops;
      told = p.told;
      always = told_at a (λ u. Always (length u.ops) (λ _ image. Q image × R image) (did_all p.ops u)) t is (λ m from to image at. (one m from to image at, other m from to image at));
    }

-- what was read is still what the device shows
pub replay_of : (old new : Device) (t : Tape) (tree : Tree) (s : Stopped) → IsRead old new → Shows old t → ReplaysAs old.size (now t) tree → IsReadFrom old.size (now t) s → IsReplayOf new t tree s
replay_of old new t tree s is shows replays read = record {
  shows = still_shows old new t is shows;
  replays = subst (λ (size : ℕ). ReplaysAs size (now t) tree) (sym is.size) replays;
  read = subst (λ (size : ℕ). IsReadFrom size (now t) s) (sym is.size) read;
}

-- ---- what was read is what the image replays by

module _ (laws : ReplayLaws) (size : ℕ) (image : ℕ → List ℕ) (tree : Tree) (s : Stopped) (is_super : IsSuper s.superblock) (h : ReplaysAs size image tree) (read : IsReadFrom size image s) where
  first_same : h.first ≡ read.first
  first_same = laws.supers h.first read.first h.is_first read.is_first (sym h.first_is ∙ read.first_is)

  log_read : HasRecords (2 * read.first.log_blocks) size image h.records
  log_read = subst (λ (v : Super). HasRecords (2 * v.log_blocks) size image h.records) first_same h.log

  records_same : h.records ≡ read.records
  records_same =
      let a = log_read in
      let low : a.tail < 2 ^ 64 = omega (arith, a.limit, a.ends) in
      let high : a.head < 2 ^ 64 = omega (arith, a.limit) in
      let e = read.is_ends in
      let low2 : read.ends.tail < 2 ^ 64 = omega (arith, e.limit, e.order) in
      let high2 : read.ends.head < 2 ^ 64 = omega (arith, e.limit) in
      let ends = laws.heads a.serial a.tail a.head read.ends.serial read.ends.tail read.ends.head low high low2 high2 (sym a.head_is ∙ read.head_is) in
      let count : length (log_sectors a.tail h.records) ≡ length (log_sectors read.ends.tail read.records) = omega (arith, a.ends, read.are.ends, ends.0, ends.1) in
      let n : ℕ = 2 * read.first.log_blocks in
      let same : log_sectors a.tail h.records ≡ log_sectors read.ends.tail read.records = ext_get_or [] (log_sectors a.tail h.records) (log_sectors read.ends.tail read.records) count
      (λ i lt. sym (a.whole i lt) ∙ ap (λ (p : ℕ). image (log_at n (p + i))) ends.0 ∙ read.stand i (omega (arith, lt, count))) in
      laws.records n size size a.tail h.records read.records a.form read.are.form (same ∙ sym (ap (λ (p : ℕ). log_sectors p read.records) ends.0))

  super_same : h.superblock ≡ s.superblock
  super_same = laws.supers h.superblock s.superblock h.is_super is_super
      (sym h.superblock_is ∙ ap (λ (rs : List (List AfterImage)). overlay_all rs 0 (image 0)) records_same ∙ read.superblock_is)

  pub linked_holds : HoldsTree (volume_of s.superblock) (λ q. overlay_all read.records q (image q)) tree
  linked_holds = subst (λ (v : Super). HoldsTree (volume_of v) (λ q. overlay_all read.records q (image q)) tree) super_same
      (subst (λ (rs : List (List AfterImage)). HoldsTree (volume_of h.superblock) (λ q. overlay_all rs q (image q)) tree) records_same (record { sound = h.sound; reads = h.reads }))

-- ---- the steps

module _ (laws : ReplayLaws) (d0 d1 : Device) (t : Tape) (tree : Tree) (s : Stopped) (h : IsReplayOf d0 t tree s) (is_super : IsSuper s.superblock) (passed : Did Barrier d0 d1) where
  abbrev image : ℕ → List ℕ
  image = now t

  abbrev n : ℕ
  n = reread.n laws d0.size image tree s h.read is_super

  abbrev r0 : LogState
  r0 = reread.r0 laws d0.size image tree s h.read is_super

  abbrev over : ℕ → List ℕ
  over = reread.over laws d0.size image tree s h.read is_super

  abbrev values : List (List ℕ)
  values = reread.values laws d0.size image tree s h.read is_super

  some : 0 < n
  some = reread.some laws d0.size image tree s h.read is_super

  holds : HoldsTree (volume_of s.superblock) over tree
  holds = linked_holds laws d0.size image tree s is_super h.replays h.read

  abbrev Good : (ℕ → List ℕ) → Type 0
  Good other = ReplaysAs d0.size other tree

  good_before : (other : ℕ → List ℕ) → ReadsAs n r0 other × Contains values (other 0) → Good other
  good_before other both = reread.good_before laws d0.size image tree s h.read is_super holds other both.0 both.1

  abbrev t1 : Tape
  t1 = did Barrier t

  told1 : d1.told ≡ Some t1
  told1 = passed.told ∙ ap (option_map (did Barrier)) h.shows.told

  one : (q : ℕ) (x : List ℕ) → MayHold t1 q x → x ≡ image q
  one q x may = laws.tape.barrier_leaves_one t q x may ∙ laws.tape.barrier_keeps t q

  stands_at : Stands n r0 t1
  stands_at = reread.stands_first laws d0.size image tree s h.read is_super t1 one

  stands1 : Told d1 (Stands n r0)
  stands1 = told_at d1 (Stands n r0) t1 told1 stands_at

  holds1 : Told d1 (HoldsOneOf 0 values)
  holds1 = told_at d1 (HoldsOneOf 0 values) t1 told1 (λ x may. (0, omega arith, sym (one 0 x may)))

  -- from the first barrier on
  pub always : (d : Device) → Passed Good d1 d → Told d (Always (length t.ops + 1) (λ _ other. Good other))
  always d p =
      let count : length t1.ops ≡ length t.ops + 1 = length-append t.ops (Barrier ∷ []) in
      let told : d.told ≡ Some (did_all p.ops t1) = p.told ∙ ap (option_map (did_all p.ops)) told1 in
      told_at d (Always (length t.ops + 1) (λ _ other. Good other)) (did_all p.ops t1) told
      (subst (λ (k : ℕ). Always k (λ _ other. Good other) (did_all p.ops t1)) count (at_told d1 (λ u. Always (length u.ops) (λ _ other. Good other) (did_all p.ops u)) t1 told1 p.always))

  shows_good : (u : Tape) → Stands n r0 u × HoldsOneOf 0 values u → (other : ℕ → List ℕ) → IsImage u other → Good other
  shows_good u both other is = good_before other (laws.image_reads n r0 u other both.0 is, both.1 (other 0) (is 0))

  pub still : Passed Good d1 d1
  still = passed_still Good d1 d1 refl (told_at d1 (λ u. (other : ℕ → List ℕ) → IsImage u other → Good other) t1 told1
      (shows_good t1 (stands_at, at_told d1 (HoldsOneOf 0 values) t1 told1 holds1)))

  -- ---- the homes

  written : (d2 : Device) → Ran (puts s.homes) d1 d2 → Told d2 (AreWritten n r0 s.homes) × Passed (ReadsAs n r0) d1 d2
  written d2 ran = laws.homes n r0 s.homes d1 d2 some (reread.are_homes laws d0.size image tree s h.read is_super) ran stands1

  valued : (d2 : Device) → Ran (puts s.homes) d1 d2 → Told d2 (HoldsOneOf 0 values) × Passed (λ other. Contains values (other 0)) d1 d2
  valued d2 ran = laws.values 0 values s.homes d1 d2 (reread.among laws d0.size image tree s h.read is_super) ran holds1

  pub homes_passed : (d2 : Device) → Ran (puts s.homes) d1 d2 → Passed Good d1 d2
  homes_passed d2 ran = passed_weaker (λ other. ReadsAs n r0 other × Contains values (other 0)) Good d1 d2 good_before
      (passed_both (ReadsAs n r0) (λ other. Contains values (other 0)) d1 d2 t1 told1 (written d2 ran).1 (valued d2 ran).1)

  pub homes_broke : (d2 : Device) → BrokeOff s.homes d1 d2 → Passed Good d1 d2
  homes_broke d2 broke = passed_weaker (λ other. ReadsAs n r0 other × Contains values (other 0)) Good d1 d2 good_before
      (passed_both (ReadsAs n r0) (λ other. Contains values (other 0)) d1 d2 t1 told1
      (laws.homes_broken n r0 s.homes d1 d2 some (reread.are_homes laws d0.size image tree s h.read is_super) broke stands1)
      (laws.values_broken 0 values s.homes d1 d2 (reread.among laws d0.size image tree s h.read is_super) broke holds1))

  -- ---- an empty log

  level_left : (r : LogState) (u : Tape) → r.records ≡ [] → r.tail ≡ r.head → r.serial < 2 ^ 64 → r.head ≤ 2 ^ 62 → Stands n r u → ((q : ℕ) → 4 + n ≤ q → IsTrue (r.is_metadata q)) → ((q : ℕ) → r.contents q ≡ over q)
      → ((x : List ℕ) → MayHold u 0 x → x ≡ super_bytes s.superblock) → IsEmptied s.superblock tree u
  level_left r u none level serial limit st above contents superblock =
      let less : ℕ → Bool = λ q. nat_le (4 + n) q in
      let bare : LogState = record r { is_metadata = less } in
      let fewer : Stands n bare u = laws.fewer n r less u (λ q there. above q (leb-true (4 + n) q there)) st in
      let same : n ≡ 2 * s.superblock.log_blocks = ap (λ (k : ℕ). 2 * k) (sym h.read.same_log) in
      record {
        reading = bare;
        records = none;
        level = level;
        serial = serial;
        limit = limit;
        stands = subst (λ (k : ℕ). Stands k bare u) same fewer;
        above = λ q le. le-leb (4 + n) q (omega (arith, le, same));
        not_super = lt-leb (4 + n) 0 (omega arith);
        superblock = superblock;
        holds = laws.alike (volume_of s.superblock) over r.contents tree (laws.volume s.superblock) (λ q place. sym (contents q)) holds;
      }

  no_records : (position : ℕ) (rs : List (List AfterImage)) → length (log_sectors position rs) ≡ 0 → rs ≡ []
  no_records position [] none = refl
  no_records position (r ∷ rs) none = absurd (omega (arith, none))

  pub level_first : s.log.tail ≡ s.log.head → Told d1 (IsEmptied s.superblock tree)
  level_first level =
      let even : h.read.ends.tail ≡ h.read.ends.head = sym h.read.tail ∙ level ∙ h.read.head in
      let none : h.read.records ≡ [] = no_records h.read.ends.tail h.read.records (omega (arith, even, h.read.are.ends)) in
      told_at d1 (IsEmptied s.superblock tree) t1 told1
      (level_left r0 t1 none even h.read.is_ends.serial h.read.is_ends.limit stands_at (reread.above_home n) (λ q. refl)
      (λ x may. one 0 x may ∙ ap (λ (rs : List (List AfterImage)). overlay_all rs 0 (image 0)) (sym none) ∙ h.read.superblock_is))

  -- ---- the log

  reading : IsReading s.log r0
  reading = record { serial = sym h.read.serial; tail = sym h.read.tail; head = sym h.read.head }

  module _ (d2 d3 : Device) (ran : Ran (puts s.homes) d1 d2) where
    told2 : d2.told ≡ Some (did_all (puts s.homes) t1)
    told2 = ran.told ∙ ap (option_map (did_all (puts s.homes))) told1

    homes_put : Told d2 (AreHomesPut s.log.sectors r0)
    homes_put = subst (λ (k : ℕ). Told d2 (AreHomesPut k r0)) (sym h.read.sectors)
        (told_weaker d2 (AreWritten n r0 s.homes) (AreHomesPut n r0) (λ u w. reread.are_put laws d0.size image tree s h.read is_super u w) (written d2 ran).0)

    pub emptied_passed : ((r : LogState) → IsReading s.log r → Told d2 (AreHomesPut s.log.sectors r) → Passed (λ other. ReadsAs s.log.sectors r other ⊎ ReadsAs s.log.sectors (emptied r) other) d2 d3)
        → ((q : ℕ) (xs : List (List ℕ)) → (q ≡ 2 → ⊥) → Told d2 (HoldsOneOf q xs) → Passed (λ other. Contains xs (other q)) d2 d3) → Passed Good d1 d3
    emptied_passed log_passed elsewhere =
        let both = passed_both (λ other. ReadsAs s.log.sectors r0 other ⊎ ReadsAs s.log.sectors (emptied r0) other) (λ other. Contains values (other 0)) d2 d3 (did_all (puts s.homes) t1) told2
        (log_passed r0 reading homes_put) (elsewhere 0 values (λ e. omega (arith, e)) (valued d2 ran).0) in
        passed_join Good d1 d2 d3 (homes_passed d2 ran)
        (passed_weaker (λ other. (ReadsAs s.log.sectors r0 other ⊎ ReadsAs s.log.sectors (emptied r0) other) × Contains values (other 0)) Good d2 d3
        (λ other is. elim is.0 [
          | inl before ↦ good_before other (subst (λ (k : ℕ). ReadsAs k r0 other) h.read.sectors before, is.1)
          | inr after ↦ reread.good_after laws d0.size image tree s h.read is_super holds other (subst (λ (k : ℕ). ReadsAs k (emptied r0) other) h.read.sectors after)
        ]) both)

    pub emptied_left : ((r : LogState) → IsReading s.log r → Told d2 (AreHomesPut s.log.sectors r) → Told d3 (Stands s.log.sectors (emptied r))) → Told d3 (IsEmptied s.superblock tree)
    emptied_left stands =
        told_weaker d3 (Stands s.log.sectors (emptied r0)) (IsEmptied s.superblock tree)
        (λ u st. level_left (emptied r0) u refl refl (omega arith) h.read.is_ends.limit (subst (λ (k : ℕ). Stands k (emptied r0) u) h.read.sectors st) (reread.above_home n) (λ q. refl)
        (λ x may. st.holds.metadata 0 x refl may ∙ h.read.superblock_is))
        (stands r0 reading homes_put)

-- ---- one stretch of moments behind another

always_then : (first : ℕ) (Q : (ℕ → List ℕ) → Type 0) (ops : List Operation) (u : Tape) → Always first (λ _ other. Q other) u → Always (length u.ops) (λ _ other. Q other) (did_all ops u) → Always first (λ _ other. Q other) (did_all ops u)
always_then first Q ops u early late m from to other is = elim (cases_lt (length u.ops) m) [
  | inl later ↦ late m (omega (arith, later)) to other is
  | inr earlier ↦
      let le : m ≤ length u.ops = omega (arith, earlier) in
      let same : upto m (did_all ops u) ≡ upto m u = ap (λ (l : List Operation). record { start = u.start; ops = l }) (take-append-le m u.ops ops le) in
      early m from le other (subst (λ (v : Tape). IsImage v other) same is)
]

pub told_then : (first : ℕ) (Q : (ℕ → List ℕ) → Type 0) (a b : Device) → Told a (Always first (λ _ other. Q other)) → Passed Q a b → Told b (Always first (λ _ other. Q other))
told_then first Q a b early p = by_cases a.told p.told early p.always
  where
    by_cases : (o : Option Tape) → b.told ≡ option_map (did_all p.ops) o → IfSome o (Always first (λ _ other. Q other)) → IfSome o (λ u. Always (length u.ops) (λ _ other. Q other) (did_all p.ops u)) → Told b (Always first (λ _ other. Q other))
    by_cases None is early late = subst (λ (o : Option Tape). IfSome o (Always first (λ _ other. Q other))) (sym is) tt
    by_cases (Some u) is early late = subst (λ (o : Option Tape). IfSome o (Always first (λ _ other. Q other))) (sym is) (always_then first Q p.ops u early late)
