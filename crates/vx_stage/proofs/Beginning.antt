-- A mount begins: an empty log, and an empty history.
use Rattle.std.proofs.Common.{◌≡◌, ℕ, zero, suc, ◌+◌, ◌<◌, ◌≤◌, ◌^◌, Bool, true, false, cond, List, [], ◌∷◌, length, Option, Some, None, refl, sym, ap, subst, ◌∙◌, arith, inl, inr, length-append}
use Rattle.std.specs.Prelude.{◌||◌, ◌==◌, is_some, IfSome, IsTrue, option_map, All, slice_get}
use Rattle.std.specs.Option.{unwrap_or}
use Rattle.std.specs.FinMap as map
use Rattle.std.specs.Ordering.{nat_cmp}
use Rattle.std.proofs.lemmas.Bool.{eqb-true, ne_eqb}
use Rattle.std.proofs.lemmas.List.Elements.{All-nil}
use Rattle.vx_base.specs.declared.event.Event.{Event}
use Rattle.vx_dev.specs.declared.device.Operation.{Operation}
use Rattle.vx_dev.specs.declared.device.Operation.TheVariants.{Put, Barrier}
use Rattle.vx_dev.specs.Tape.{Tape, State as Device, Did, DidNothing, Failed, did, tried, MayHold, now, Settles, IsImage, IsInStep}
use Rattle.vx_sound.specs.Reading.{Form, form_bytes}
use Rattle.vx_layout.specs.LogForms.{AfterImage, IsHomeSector, LogState}
use Rattle.vx_layout.specs.Places.{Volume, is_data, block_sector, sector_part}
use Rattle.vx_layout.specs.Supers.{IsSuper, super_bytes, volume_of}
use Rattle.vx_layout.specs.declared.superblock.Super.{Super}
use Rattle.vx_log.specs.Crashes.{Stands}
use Rattle.vx_dev.specs.Moments.{Told, Always, Passed}
use Rattle.vx_dev.specs.Runs.{did_all}
use Rattle.vx_log.specs.declared.log.Closing.{Closing}
use Rattle.vx_dev.proofs.Claims.{told_did, passed_did, passed_still, passed_join, told_weaker}
use Rattle.vx_model.specs.AllowedLaws.{IsPlaced}
use Rattle.vx_model.specs.Contents.{parsed_of}
use Rattle.vx_model.specs.Images.{is_metadata, contents, content_at}
use Rattle.vx_model.specs.Legal.{World, Waiting, Legal, opening, at_of, after_all}
use Rattle.vx_model.specs.Settled.{ReplaysSettled}
use Rattle.vx_model.specs.State.{State}
use Rattle.vx_model.specs.LaidOut.{HoldsData}
use Rattle.vx_model.specs.Waiting.{IsNamed}
use Rattle.vx_log.specs.Batches.{noted_at}
use Rattle.vx_model.specs.Allowed.{HoldsFront}
use Rattle.vx_stage.specs.Leads.{state_at}
use Rattle.vx_stage.specs.Kernels.{mounted_super, log_size, IsMounted, IsReadingOf, IsNoted, IsLevel, IsLeftAs, IsBegun, HasRun, Now, IsLive, present}
use Rattle.vx_stage.specs.KernelLaws.{KernelLaws}
use Rattle.vx_stage.specs.Leads.{Leads, AreYoung}
use Rattle.vx_stage.specs.declared.kernel.Job.{Job}
use Rattle.vx_stage.specs.declared.kernel.Job.TheVariants.{Idle}
use Rattle.vx_stage.specs.declared.kernel.Kernel.{Kernel}
use Rattle.vx_stage.specs.declared.begin.Room.{Room}
use Rattle.vx_base.specs.declared.mode.Logging.{Logging}
use Rattle.vx_stage.proofs.Gates.{or_right, or_false, claim_none}
use Rattle.vx_stage.proofs.Levels.{level_write, level_barrier, level_replays, begun_at}
use Rattle.vx_stage.proofs.Merging.{nothing}
use Rattle.vx_stage.proofs.Releasing.{high}
use Rattle.vx_stage.proofs.Showing.{same_volume}

-- the kernel of a mount that begins with this room
abbrev pub begun_by : Super → Logging → ℕ → Room → Kernel
begun_by sizes logging first room = record { sizes = sizes; logging = logging; first = first; log = room.log; homes = room.homes; gathered = room.gathered; ready = Some room.ready; job = Idle; committed = 0; closing = 0; history = room.history }

-- ---- the history is empty

module _ (k : Kernel) (s : State) (empty : k.history.items ≡ []) (committed : k.committed ≡ 0) (closing : k.closing ≡ 0) where
  abbrev o : World
  o = opening k.first s

  on_empty : (P : List Event → Type 0) → P [] → P k.history.items
  on_empty P is = subst P (sym empty) is

  present_is : present o k ≡ s
  present_is = on_empty (λ es. (after_all o es).state ≡ s) refl

  state_is : (i : ℕ) → state_at o k.history.items i ≡ s
  state_is i = on_empty (λ es. state_at o es i ≡ s) (none i)
    where
      none : (n : ℕ) → state_at o [] n ≡ s
      none zero = refl
      none (suc n) = refl

  pub begun_run : (d : Device) → IsMounted k.sizes s → ((b : ℕ) → s.layout.pending b ≡ None) → k.first ≤ d.count → HasRun o d k
  begun_run d m free later = record {
    legal = on_empty (λ es. Legal o es) tt;
    next = on_empty (λ es. (after_all o es).next ≡ length es) refl;
    at = on_empty (λ es. (after_all o es).at ≤ d.count) later;
    come = on_empty (All (λ x. at_of x ≤ d.count)) (All-nil (λ x. at_of x ≤ d.count));
    placed = on_empty (λ es. All (IsPlaced (length es)) es) (All-nil (IsPlaced 0));
    waiting = λ place v is. absurd (on_empty (λ es. map.get (after_all o es).waiting place ≡ Some v → ⊥) (λ h. let wrong : ◌≡◌ {A = Option Waiting} None (Some v) = sym (map.get-empty nat_cmp place) ∙ h in cc) is);
    order = omega (arith, committed, closing);
    within = omega (arith, closing);
    durable = λ m. on_empty (λ es. HoldsFront k.logging es m k.committed) (record {
      returned = λ at place answer there early told. absurd (omega (arith, there.1));
      unmounted = λ at place found early. absurd (none_there place found);
    });
    mounted = λ i le. subst (IsMounted k.sizes) (sym (state_is i)) m;
    mounted_now = subst (IsMounted k.sizes) (sym present_is) m;
    named = λ i b low le there. inl (subst (λ (x : State). IsNamed x b) (state_is i ∙ sym present_is) there);
    waits = λ i b p le pends lt. absurd (omega (arith, le, lt, ap (λ (es : List Event). length es) empty));
    pending = λ b p pends. absurd (let wrong : ◌≡◌ {A = Option ℕ} None (Some p) = sym (free b) ∙ ap (λ (x : State). x.layout.pending b) (sym present_is) ∙ pends in cc);
  }
    where
      none_there : {e : Event} (i : ℕ) → slice_get [] i ≡ Some e → ⊥
      none_there zero is = cc
      none_there (suc i) is = cc

  -- ---- the log is empty

  module _ (laws : KernelLaws) (is_super : IsSuper k.sizes) (m : IsMounted k.sizes s) where
    abbrev vol : Volume
    vol = volume_of k.sizes

    -- the superblock is metadata too
    abbrev reading : ℕ → ℕ → LogState
    reading serial position = record {
      serial = serial;
      tail = position;
      head = position;
      records = [];
      is_metadata = λ q. q == 0 || is_metadata vol (parsed_of s) q;
      contents = λ q. cond (q == 0) (super_bytes (mounted_super k.sizes)) (contents vol (parsed_of s) q);
    }

    not_zero : (q : ℕ) → IsTrue (is_metadata vol (parsed_of s) q) → (q == 0) ≡ false
    not_zero q there = ne_eqb q 0 (λ e. omega (arith, e, laws.past_log k.sizes (parsed_of s) q there))

    reading_is : (serial position : ℕ) → serial < 2 ^ 64 → position ≤ 2 ^ 62 → IsReadingOf k.sizes s (reading serial position)
    reading_is serial position small limit = record {
      says = record {
        sectors = λ q there. or_right (q == 0) (is_metadata vol (parsed_of s) q) there;
        bytes = λ q there. ap (λ (b : Bool). cond b (super_bytes (mounted_super k.sizes)) (contents vol (parsed_of s) q)) (not_zero q there);
      };
      superblock = refl;
      superblock_is = refl;
      serial = small;
      limit = limit;
      form = tt;
      unnamed = λ x. refl;
    }

    apart : (q : ℕ) (b : Bool) → (q == 0) ≡ b → IsTrue (b || is_metadata vol (parsed_of s) q) → IsHomeSector (log_size k.sizes) q
    apart q true zero_ there = inl (eqb-true q 0 zero_)
    apart q false other there = inr (laws.past_log k.sizes (parsed_of s) q there)

    held_there : (serial position : ℕ) (t : Tape) → IsBegun k.sizes s serial position t → (q : ℕ) (x : List ℕ) (b : Bool) → (q == 0) ≡ b → IsTrue (b || is_metadata vol (parsed_of s) q) → MayHold t q x
        → x ≡ cond b (super_bytes (mounted_super k.sizes)) (contents vol (parsed_of s) q)
    held_there serial position t begun q x true zero_ there may = begun.mounted x (subst (λ (u : ℕ). MayHold t u x) (eqb-true q 0 zero_) may)
    held_there serial position t begun q x false other there may = begun.level.metadata q x there may

    stands : (serial position : ℕ) (t : Tape) → IsBegun k.sizes s serial position t → Stands (log_size k.sizes) (reading serial position) t
    stands serial position t begun = record {
      holds = record {
        apart = λ q there. apart q (q == 0) refl there;
        ends = omega arith;
        fits = omega arith;
        whole = λ i x lt may. absurd (omega (arith, lt));
        metadata = λ q x there may. held_there serial position t begun q x (q == 0) refl there may;
      };
      head_is = begun.level.head;
    }

    data_apart : (b j : ℕ) → HoldsData s.layout b → j < 2 → (block_sector 2 b + j == 0 || is_metadata vol (parsed_of s) (block_sector 2 b + j)) ≡ false
    data_apart b j holds lt =
        let q : ℕ = block_sector 2 b + j in
        let here : IsTrue (is_data vol b) = subst (λ (w : Volume). is_data w b ≡ true) (same_volume k.sizes s m) holds.data_block in
        let content : content_at vol (parsed_of s) q ≡ option_map (λ x. sector_part j (form_bytes 1024 x)) ((parsed_of s).forms b) = laws.parts k.sizes (parsed_of s) b j here lt in
        let unnamed : is_some (option_map (λ x. sector_part j (form_bytes 1024 x)) ((parsed_of s).forms b)) ≡ false =
        claim_none (λ (x : Form). sector_part j (form_bytes 1024 x)) ((parsed_of s).forms b)
        (λ form. let there = laws.formed s b form in let no : true ≡ false = sym there.1 ∙ holds.unnamed there.0 in cc) in
        or_false (q == 0) (is_metadata vol (parsed_of s) q) (high k.sizes b j here) (ap is_some content ∙ unnamed)

    module _ (job_is : k.job ≡ Idle) (homes : k.homes ≡ []) (gathered : k.gathered ≡ []) (free : k.log.closing ≡ None) (level : k.log.tail ≡ k.log.head) where
      begun_live_at : (t : Tape) → length t.ops ≡ k.first → IsBegun k.sizes s k.log.serial k.log.head t → IsLive o k t
      begun_live_at t count begun =
          let r : LogState = reading k.log.serial k.log.head in
          record {
            past = λ n from lt image is. absurd (omega (arith, from, lt, count));
            reading = r;
            now = subst (λ (j : Job). Now k j o r t) (sym job_is) (
              record {
                reading = subst (λ (x : State). IsReadingOf k.sizes x r) (sym (state_is k.committed)) (reading_is k.log.serial k.log.head begun.level.serial_limit begun.level.limit);
                serial = refl;
                tail = sym level;
                head = refl;
                noted = λ q. subst (λ (hs : List AfterImage). IsNoted r q (noted_at hs q)) (sym homes) (λ x. refl);
                apart = λ b j holds lt. data_apart b j (subst (λ (x : State). HoldsData x.layout b) present_is holds) lt;
                leads = subst (λ (hs : List AfterImage). Leads vol (parsed_of (state_at o k.history.items k.closing)) (parsed_of (present o k)) hs) (sym gathered)
                    (subst (λ (x : State). Leads vol (parsed_of x) (parsed_of (present o k)) []) (present_is ∙ sym (state_is k.closing)) (nothing vol (parsed_of (present o k))));
                young = subst (λ (hs : List AfterImage). AreYoung (present o k) k.closing hs) (sym gathered) (λ b j data_ lt. tt);
                batch_leads = λ c is. absurd (let wrong : ◌≡◌ {A = Option Closing} None (Some c) = sym free ∙ is in cc);
                batch_young = λ c is. absurd (let wrong : ◌≡◌ {A = Option Closing} None (Some c) = sym free ∙ is in cc);
              },
              stands k.log.serial k.log.head t begun,
            );
          }

      pub begun_live : (d : Device) → k.first ≡ d.count → IsInStep d → Told d (IsBegun k.sizes s k.log.serial k.log.head) → Told d (IsLive o k)
      begun_live d first step told = by_cases d.told step told
        where
          by_cases : (x : Option Tape) → IfSome x (λ t. length t.ops ≡ d.count) → IfSome x (IsBegun k.sizes s k.log.serial k.log.head) → IfSome x (IsLive o k)
          by_cases None count is = tt
          by_cases (Some t) count is = begun_live_at t (omega (arith, count, first)) is

-- ---- a clean image is marked as mounted

did_told : (op : Operation) (a b : Device) (P Q : Tape → Type 0) → Did op a b → ((t : Tape) → P t → Q (did op t)) → Told a P → Told b Q
did_told op a b P Q d f h = told_did op a.told b.told P Q d.told f h

there : (x : Option (List ℕ)) (y : List ℕ) → IfSome x (λ bytes. y ≡ bytes) → IsTrue (is_some x) → y ≡ unwrap_or x []
there (Some bytes) y is some = is
there None y is some = absurd cc

module _ (laws : KernelLaws) (v : Super) (s : State) (is_super : IsSuper v) (m : IsMounted v s) (serial position : ℕ) where
  abbrev super : List ℕ
  super = super_bytes (mounted_super v)

  abbrev Level : Tape → Type 0
  Level t = IsLevel v s serial position t

  abbrev IsMarked : Tape → Type 0
  IsMarked t = Level t × Settles t 0 super

  abbrev pub Same : (ℕ → List ℕ) → Type 0
  Same image = ReplaysSettled s image

  shown : (d : Device) → Told d Level → Told d (λ t. (image : ℕ → List ℕ) → IsImage t image → Same image)
  shown d h = told_weaker d Level (λ t. (image : ℕ → List ℕ) → IsImage t image → Same image) (level_replays laws v s is_super m serial position) h

  put_at : (t : Tape) → Level t → IsMarked (did (Put 0 super) t)
  put_at t l = (level_write laws v s is_super m serial position t (Put 0 super) super (laws.tape.put_writes 0 super) (inl refl) l, laws.tape.put_settles t 0 super)

  -- behind a barrier a crash leaves what the device held
  left_level : (t : Tape) → IsLeftAs v s serial position (now t) → Level (did Barrier t)
  left_level t left = record {
    metadata = λ q x named may. one q x may ∙ there (content_at (volume_of v) (parsed_of s) q) (now t q) (left.metadata q) named;
    head = λ x may. one 2 x may ∙ left.head;
    superblock = λ x may. inr (one 0 x may ∙ left.superblock);
    serial_limit = left.serial_limit;
    limit = left.limit;
  }
    where
      one : (q : ℕ) (x : List ℕ) → MayHold (did Barrier t) q x → x ≡ now t q
      one q x may = laws.tape.barrier_leaves_one t q x may ∙ laws.tape.barrier_keeps t q

  module _ (a : Device) (t : Tape) (told : a.told ≡ Some t) (left : IsLeftAs v s serial position (now t)) where
    -- no moment behind the first barrier has come
    pub first_failed : (b : Device) → DidNothing a b → Told b (Always (length t.ops + 1) (λ _ image. Same image))
    first_failed b nothing_ = subst (λ (o : Option Tape). IfSome o (Always (length t.ops + 1) (λ _ image. Same image))) (sym (nothing_.told ∙ told)) (λ n from to image is. absurd (omega (arith, from, to)))

    module _ (b : Device) (first : Did Barrier a b) where
      told_b : b.told ≡ Some (did Barrier t)
      told_b = first.told ∙ ap (option_map (did Barrier)) told

      level_b : Told b Level
      level_b = subst (λ (o : Option Tape). IfSome o Level) (sym told_b) (left_level t left)

      -- from the first barrier on
      kept : (d : Device) → Passed Same b d → Told d (Always (length t.ops + 1) (λ _ image. Same image))
      kept d p =
          let one : Tape = did Barrier t in
          let count : length one.ops ≡ length t.ops + 1 = length-append t.ops (Barrier ∷ []) in
          let told_d : d.told ≡ Some (did_all p.ops one) = p.told ∙ ap (option_map (did_all p.ops)) told_b in
          let always : Always (length one.ops) (λ _ image. Same image) (did_all p.ops one) = subst (λ (o : Option Tape). IfSome o (λ u. Always (length u.ops) (λ _ image. Same image) (did_all p.ops u))) told_b p.always in
          subst (λ (o : Option Tape). IfSome o (Always (length t.ops + 1) (λ _ image. Same image))) (sym told_d) (subst (λ (n : ℕ). Always n (λ _ image. Same image) (did_all p.ops one)) count always)

      pub put_failed : (c : Device) → Failed 0 super b c → Told c (Always (length t.ops + 1) (λ _ image. Same image))
      put_failed c failed = kept c (elim failed.did [
        | inl done ↦ passed_did Same (tried 0 super) b c done (shown b level_b) (shown c (did_told (tried 0 super) b c Level Level done
            (λ u l. level_write laws v s is_super m serial position u (tried 0 super) super (laws.tape.failed_writes 0 super) (inl refl) l) level_b))
        | inr nothing_ ↦ passed_still Same b c nothing_.told (shown b level_b)
      ])

      module _ (c : Device) (second : Did (Put 0 super) b c) where
        marked : Told c IsMarked
        marked = did_told (Put 0 super) b c Level IsMarked second put_at level_b

        level_c : Told c Level
        level_c = told_weaker c IsMarked Level (λ u h. h.0) marked

        put_passed : Passed Same b c
        put_passed = passed_did Same (Put 0 super) b c second (shown b level_b) (shown c level_c)

        pub last_failed : (d : Device) → DidNothing c d → Told d (Always (length t.ops + 1) (λ _ image. Same image))
        last_failed d nothing_ = kept d (passed_join Same b c d put_passed (passed_still Same c d nothing_.told (shown c level_c)))

        pub last_passed : (d : Device) → Did Barrier c d → Told d (Always (length t.ops + 1) (λ _ image. Same image))
        last_passed d last = kept d (passed_join Same b c d put_passed (passed_did Same Barrier c d last (shown c level_c)
            (shown d (did_told Barrier c d IsMarked Level last (λ u h. level_barrier laws v s is_super m serial position u h.0) marked))))

        pub begun : (d : Device) → Did Barrier c d → Told d (IsBegun v s serial position)
        begun d last = did_told Barrier c d IsMarked (IsBegun v s serial position) last (λ u h. begun_at laws v s is_super m serial position u h.0 h.1) marked
