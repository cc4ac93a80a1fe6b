-- The superblock of an image that was left clean is written over an empty log.
use Rattle.std.proofs.Common.{◌≡◌, ◌⊎◌, ℕ, ◌+◌, ◌*◌, ◌<◌, ◌≤◌, ◌^◌, true, false, List, [], length, Option, Some, None, refl, sym, ap, subst, ◌∙◌, arith, inl, inr}
use Rattle.std.specs.Prelude.{IsTrue, IfSome, option_map, Result, Ok, Err, OnOk, OnErr}
use Rattle.std.specs.List.{AllByRecursion}
use Rattle.vx_dev.specs.declared.device.DevFault.{DevFault}
use Rattle.vx_dev.specs.declared.device.Operation.{Operation}
use Rattle.vx_dev.specs.declared.device.Operation.TheVariants.{Put, Barrier}
use Rattle.vx_dev.specs.Tape.{Tape, State as Device, Did, DidNothing, Failed, Writes, did, tried, MayHold, Settles, now, IsImage}
use Rattle.vx_layout.specs.declared.superblock.Super.{Super}
use Rattle.vx_layout.specs.LogForms.{AfterImage, IsRecord, LogState, head_sector, log_sectors, overlay_all}
use Rattle.vx_layout.specs.Places.{sectors_of}
use Rattle.vx_layout.specs.Supers.{IsSuper, super_bytes, volume_of}
use Rattle.vx_log.specs.Crashes.{Stands}
use Rattle.vx_dev.specs.Moments.{Told, Passed}
use Rattle.vx_dev.proofs.Claims.{passed_did, passed_join, passed_still, told_weaker}
use Rattle.vx_replay.specs.Holding.{HoldsTree}
use Rattle.vx_model.specs.Replays.{ReplaysAs, IsLeft}
use Rattle.vx_model.specs.Tree.{Tree}
use Rattle.vx_replay.specs.ReplayLaws.{ReplayLaws}
use Rattle.vx_replay.specs.Stopped.{IsEmptied}
use Rattle.vx_replay.proofs.Reread.{good, marked, marked_super}

module _ (laws : ReplayLaws) (size : ℕ) (sb : Super) (is_super : IsSuper sb) (room : sectors_of (volume_of sb) ≤ size) (tree : Tree) where
  abbrev n : ℕ
  n = 2 * sb.log_blocks

  abbrev clean_bytes : List ℕ
  clean_bytes = super_bytes (marked sb true)

  -- the log is empty, and the superblock is this one or that of a clean image
  record IsMarking (t : Tape) : Type 0 where
    reading : LogState
    records : reading.records ≡ []
    level : reading.tail ≡ reading.head
    serial : reading.serial < 2 ^ 64
    limit : reading.head ≤ 2 ^ 62
    stands : Stands n reading t
    above : (q : ℕ) → 4 + n ≤ q → IsTrue (reading.is_metadata q)
    not_super : reading.is_metadata 0 ≡ false
    superblock : (x : List ℕ) → MayHold t 0 x → (x ≡ super_bytes sb) ⊎ (x ≡ clean_bytes)
    holds : HoldsTree (volume_of sb) reading.contents tree

  begins : (t : Tape) → IsEmptied sb tree t → IsMarking t
  begins t k = record {
    reading = k.reading;
    records = k.records;
    level = k.level;
    serial = k.serial;
    limit = k.limit;
    stands = k.stands;
    above = k.above;
    not_super = k.not_super;
    superblock = λ x may. inl (k.superblock x may);
    holds = k.holds;
  }

  abbrev Good : (ℕ → List ℕ) → Type 0
  Good image = ReplaysAs size image tree

  shows : (t : Tape) → IsMarking t → (image : ℕ → List ℕ) → IsImage t image → Good image
  shows t k image is =
      let rd = laws.image_reads n k.reading t image k.stands is in
      let form : AllByRecursion (IsRecord n size) k.reading.records = subst (AllByRecursion (IsRecord n size)) (sym k.records) tt in
      let bare : overlay_all k.reading.records 0 (image 0) ≡ image 0 = ap (λ (rs : List (List AfterImage)). overlay_all rs 0 (image 0)) k.records in
      elim (k.superblock (image 0) (is 0)) [
        | inl before ↦ good laws tree size sb sb refl is_super room k.reading.contents k.holds k.reading sb.clean image k.serial k.limit form k.above (λ q. refl) rd (bare ∙ before) sb is_super before room refl
        | inr after ↦ good laws tree size sb sb refl is_super room k.reading.contents k.holds k.reading true image k.serial k.limit form k.above (λ q. refl) rd (bare ∙ after) (marked sb true) (marked_super sb true is_super) after room refl
      ]

  shown : (d : Device) → Told d IsMarking → Told d (λ t. (image : ℕ → List ℕ) → IsImage t image → Good image)
  shown d h = told_weaker d IsMarking (λ t. (image : ℕ → List ℕ) → IsImage t image → Good image) shows h

  no_sectors : (r : LogState) → r.records ≡ [] → length (log_sectors r.tail r.records) ≡ 0
  no_sectors r none = ap (λ (rs : List (List AfterImage)). length (log_sectors r.tail rs)) none

  after_write : (t : Tape) (op : Operation) → Writes op 0 clean_bytes → IsMarking t → IsMarking (did op t)
  after_write t op w k = record {
    reading = k.reading;
    records = k.records;
    level = k.level;
    serial = k.serial;
    limit = k.limit;
    stands = laws.written n k.reading t op 0 clean_bytes w
        (record { no_record = λ i lt same. absurd (omega (arith, lt, no_sectors k.reading k.records)); decided = λ there. absurd (let wrong : true ≡ false = sym there ∙ k.not_super in cc) }) (λ same. omega (arith, same)) k.stands;
    above = k.above;
    not_super = k.not_super;
    superblock = λ x may. elim (w.may t 0 x may) [ inl before ↦ k.superblock x before | inr here ↦ inr here.1 ];
    holds = k.holds;
  }

  after_barrier : (t : Tape) → IsMarking t → IsMarking (did Barrier t)
  after_barrier t k = record {
    reading = k.reading;
    records = k.records;
    level = k.level;
    serial = k.serial;
    limit = k.limit;
    stands = laws.barrier n k.reading t k.stands;
    above = k.above;
    not_super = k.not_super;
    superblock = λ x may. k.superblock x (laws.tape.barrier_adds t 0 x may);
    holds = k.holds;
  }

  -- a barrier now leaves the superblock of a clean image
  abbrev IsSettling : Tape → Type 0
  IsSettling t = IsMarking t × Settles t 0 clean_bytes

  left_at : (t : Tape) → IsSettling t → IsLeft size tree (did Barrier t)
  left_at t h =
      let k = after_barrier t h.0 in
      let image : ℕ → List ℕ = now (did Barrier t) in
      let is : IsImage (did Barrier t) image = (λ q. laws.tape.now_may (did Barrier t) q) in
      let rd = laws.image_reads n k.reading (did Barrier t) image k.stands is in
      let alike : HoldsTree (volume_of sb) image tree =
      laws.alike (volume_of sb) k.reading.contents image tree (laws.volume sb)
      (λ q place. sym (rd.metadata q (k.above q (laws.past_log sb q place))) ∙ ap (λ (rs : List (List AfterImage)). overlay_all rs q (image q)) k.records) k.holds in
      record {
        one = λ q x may. laws.tape.barrier_leaves_one t q x may;
        clean = record {
          superblock = marked sb true;
          is_super = marked_super sb true is_super;
          superblock_is = h.1 (image 0) (is 0);
          clean = refl;
          room = room;
          serial = k.reading.serial;
          tail = k.reading.head;
          serial_limit = k.serial;
          limit = k.limit;
          head_is = rd.head_is ∙ ap (λ (p : ℕ). head_sector k.reading.serial p k.reading.head) k.level;
          sound = alike.sound;
          reads = alike.reads;
        };
      }

  did_told : (op : Operation) (a b : Device) (P Q : Tape → Type 0) → Did op a b → ((t : Tape) → P t → Q (did op t)) → Told a P → Told b Q
  did_told op a b P Q d f h = subst (λ (o : Option Tape). IfSome o Q) (sym d.told) (by_cases a.told h)
    where
      by_cases : (o : Option Tape) → IfSome o P → IfSome (option_map (did op) o) Q
      by_cases None k = tt
      by_cases (Some t) k = f t k

  module _ (a : Device) (emptied : Told a (IsEmptied sb tree)) where
    first : Told a IsMarking
    first = told_weaker a (IsEmptied sb tree) IsMarking begins emptied

    put_told : (b : Device) → Did (Put 0 clean_bytes) a b → Told b IsSettling
    put_told b put = did_told (Put 0 clean_bytes) a b IsMarking IsSettling put
        (λ t k. (after_write t (Put 0 clean_bytes) (laws.tape.put_writes 0 clean_bytes) k, laws.tape.put_settles t 0 clean_bytes)) first

    put_shown : (b : Device) → Did (Put 0 clean_bytes) a b → Told b (λ t. (image : ℕ → List ℕ) → IsImage t image → Good image)
    put_shown b put = shown b (told_weaker b IsSettling IsMarking (λ t h. h.0) (put_told b put))

    pub put_failed : (b : Device) → Failed 0 clean_bytes a b → Passed Good a b
    put_failed b failed = elim failed.did [
      | inl tried_it ↦ passed_did Good (tried 0 clean_bytes) a b tried_it (shown a first)
          (shown b (did_told (tried 0 clean_bytes) a b IsMarking IsMarking tried_it (λ t k. after_write t (tried 0 clean_bytes) (laws.tape.failed_writes 0 clean_bytes) k) first))
      | inr nothing ↦ passed_still Good a b nothing.told (shown a first)
    ]

    pub marked_passed : (b d : Device) (r : Result (Unit {0}) DevFault) → Did (Put 0 clean_bytes) a b → OnOk r (Did Barrier b d) → OnErr r (DidNothing b d) → Passed Good a d
    marked_passed b d r put passed nothing = passed_join Good a b d (passed_did Good (Put 0 clean_bytes) a b put (shown a first) (put_shown b put)) (by_result r passed nothing)
      where
        by_result : (r : Result (Unit {0}) DevFault) → OnOk r (Did Barrier b d) → OnErr r (DidNothing b d) → Passed Good b d
        by_result (Ok x) passed nothing = passed_did Good Barrier b d passed (put_shown b put)
            (shown d (did_told Barrier b d IsSettling IsMarking passed (λ t h. after_barrier t h.0) (put_told b put)))
        by_result (Err e) passed nothing = passed_still Good b d nothing.told (put_shown b put)

    pub marked_left : (b d : Device) (r : Result (Unit {0}) DevFault) → Did (Put 0 clean_bytes) a b → OnOk r (Did Barrier b d) → OnOk r (Told d (IsLeft size tree))
    marked_left b d (Ok x) put passed = did_told Barrier b d IsSettling (IsLeft size tree) passed left_at (put_told b put)
    marked_left b d (Err e) put passed = tt
