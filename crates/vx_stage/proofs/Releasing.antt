-- Blocks that were given up before the committed state are free, once the log is empty.
use Rattle.std.proofs.Common.{◌≡◌, ℕ, ◌+◌, ◌-◌, ◌*◌, ◌%◌, ◌<◌, ◌≤◌, Bool, true, false, List, [], ◌∷◌, ◌++◌, length, Option, Some, None, refl, sym, ap, subst, ◌∙◌, arith, inl, inr}
use Rattle.std.specs.Prelude.{◌||◌, ◌==◌, ◌&&◌, is_some, nat_le, nat_lt, IsTrue, IfSome, option_map}
use Rattle.std.proofs.lemmas.Bool.Decides.{nat_tests}
use Rattle.std.proofs.lemmas.Bool.{eqb-true}
use Rattle.vx_base.specs.declared.event.Event.{Event}
use Rattle.vx_base.specs.declared.event.Event.TheVariants as event
use Rattle.vx_dev.specs.Tape.{Tape, State as Device, IsInStep}
use Rattle.vx_sound.specs.Reading.{Form, form_bytes}
use Rattle.vx_layout.specs.LogForms.{AfterImage, LogState}
use Rattle.vx_layout.specs.Places.{Volume, first_data, is_data, per_block, block_sector, sector_part}
use Rattle.vx_layout.specs.Supers.{IsSuper, volume_of}
use Rattle.vx_layout.specs.declared.superblock.Super.{Super}
use Rattle.vx_dev.specs.Moments.{Told, Past}
use Rattle.vx_log.specs.Batches.{noted_at}
use Rattle.vx_model.specs.Contents.{parsed_of}
use Rattle.vx_model.specs.Images.{Parsed, is_metadata, content_at}
use Rattle.vx_model.specs.Layout.{volume}
use Rattle.vx_model.specs.LaidOut.{HoldsData}
use Rattle.vx_model.specs.Legal.{World}
use Rattle.vx_model.specs.State.{State}
use Rattle.vx_model.specs.Allowed.{IsAllowed}
use Rattle.vx_stage.specs.Leads.{state_at}
use Rattle.vx_stage.specs.Growths.{next_state, IsGrowth}
use Rattle.vx_stage.specs.Kernels.{log_size, IsReadingOf, IsNoted, HasRun, IsLogOf, Now, IsLive, present}
use Rattle.vx_stage.specs.KernelLaws.{KernelLaws}
use Rattle.vx_stage.specs.Leads.{Leads, AreYoung}
use Rattle.vx_stage.specs.declared.kernel.Job.{Job}
use Rattle.vx_stage.specs.declared.kernel.Job.TheVariants.{Idle}
use Rattle.vx_stage.specs.declared.kernel.Kernel.{Kernel}
use Rattle.vx_stage.proofs.Gates.{or_right, or_cases, or_false, not_young, claim_none}
use Rattle.vx_stage.proofs.Growing.{log_grows, past_stays, still_young}
use Rattle.vx_stage.proofs.Showing.{same_volume}

not_more : (x y : Bool) → (IsTrue x → IsTrue y) → y ≡ false → x ≡ false
not_more false y f h = refl
not_more true y f h = absurd (let wrong : true ≡ false = sym (f refl) ∙ h in cc)

first_of : (t u v : Bool) → IsTrue (t && (u && v)) → t ≡ true
first_of true u v h = refl
first_of false u v h = absurd cc

not_zero : (l x y : ℕ) → nat_le (2 + l) x ≡ true → (block_sector 2 x + y == 0) ≡ false
not_zero l x y h = grind (arith, nat_tests)

-- a data block stands behind the superblock
pub high : (v : Super) (x y : ℕ) → IsTrue (is_data (volume_of v) x) → (block_sector 2 x + y == 0) ≡ false
unfolding is_data
high v x y there = not_zero v.log_blocks x y
    (first_of (nat_le (2 + v.log_blocks) x) (nat_lt (x - (2 + v.log_blocks)) (4096 * v.units)) (nat_le (first_data (per_block (volume_of v))) ((x - (2 + v.log_blocks)) % 4096)) there)

module _ (laws : KernelLaws) (o : World) (d : Device) (k : Kernel) (at : ℕ) (is_super : IsSuper k.sizes) (run : HasRun o d k) (grows : IsGrowth o d k (event.Release at k.committed)) (job_is : k.job ≡ Idle) (empty : k.homes ≡ []) (level : k.closing ≡ k.committed) where
  abbrev e : Event
  e = event.Release at k.committed

  abbrev vol : Volume
  vol = volume_of k.sizes

  abbrev s_c : State
  s_c = state_at o k.history.items k.committed

  inside : k.committed ≤ length k.history.items
  inside = omega (arith, run.order, run.within)

  -- no other sector is known to hold metadata than those of the committed state
  abbrev only : ℕ → Bool
  only q = q == 0 || is_metadata vol (parsed_of s_c) q

  abbrev trimmed : LogState → LogState
  trimmed r = record r { is_metadata = only }

  less : (r : LogState) → IsReadingOf k.sizes s_c r → (q : ℕ) → IsTrue (only q) → IsTrue (r.is_metadata q)
  less r reading q there = elim (or_cases (q == 0) (is_metadata vol (parsed_of s_c) q) there) [
    | inl zero_ ↦ subst (λ (s : ℕ). IsTrue (r.is_metadata s)) (sym (eqb-true q 0 zero_)) reading.superblock
    | inr meta ↦ reading.says.sectors q meta
  ]

  trimmed_reading : (r : LogState) → IsReadingOf k.sizes s_c r → IsReadingOf k.sizes s_c (trimmed r)
  trimmed_reading r reading = record {
    says = record { sectors = λ q there. or_right (q == 0) (is_metadata vol (parsed_of s_c) q) there; bytes = reading.says.bytes };
    superblock = refl;
    superblock_is = reading.superblock_is;
    serial = reading.serial;
    limit = reading.limit;
    form = reading.form;
    unnamed = reading.unnamed;
  }

  -- a block that may hold bytes then held no metadata in the committed state
  free_then : (b j : ℕ) → HoldsData (next_state o k e).layout b → j < 2 → only (block_sector 2 b + j) ≡ false
  free_then b j holds lt =
      let q : ℕ = block_sector 2 b + j in
      let next : State = next_state o k e in
      let data_ : is_data (volume next.layout) b ≡ true = holds.data_block in
      let here : IsTrue (is_data vol b) = subst (λ (w : Volume). is_data w b ≡ true) (same_volume k.sizes next grows.mounted) data_ in
      let content : content_at vol (parsed_of s_c) q ≡ option_map (λ x. sector_part j (form_bytes 1024 x)) ((parsed_of s_c).forms b) = laws.parts k.sizes (parsed_of s_c) b j here lt in
      let unclaimed : is_some (option_map (λ x. sector_part j (form_bytes 1024 x)) ((parsed_of s_c).forms b)) ≡ false =
      claim_none (λ (x : Form). sector_part j (form_bytes 1024 x)) ((parsed_of s_c).forms b)
      (λ there. not_young next k.committed b holds (grows.young k.committed b (omega arith) inside (run.named k.committed b (omega arith) inside (laws.formed s_c b there)))) in
      or_false (q == 0) (is_metadata vol (parsed_of s_c) q) (high k.sizes b j here) (ap is_some content ∙ unclaimed)

  opens : (i : ℕ) (r : LogState) → IsLogOf o k i r → Leads vol (parsed_of (state_at o k.history.items k.closing)) (parsed_of (next_state o k e)) k.gathered × AreYoung (next_state o k e) k.closing k.gathered
  opens i r l = (
    subst (λ (p : Parsed). Leads vol (parsed_of (state_at o k.history.items k.closing)) p k.gathered) (sym (laws.released (present o k) k.committed)) l.leads,
    still_young o d k e run grows k.closing k.gathered run.order run.within l.young,
  )

  module _ (k2 : Kernel) (items : k2.history.items ≡ k.history.items ++ e ∷ []) where
    abbrev released : Kernel
    released = record k { history = k2.history }

    released_at : (t : Tape) → length t.ops ≡ d.count → IsLive o k t → IsLive o released t
    released_at t count live =
        let r : LogState = live.reading in
        let now_ : Now k Idle o r t = subst (λ (j : Job). Now k j o r t) job_is live.now in
        let l = now_.0 in
        let l2 : IsLogOf o k k.committed (trimmed r) = record {
          reading = trimmed_reading r l.reading;
          serial = l.serial;
          tail = l.tail;
          head = l.head;
          noted = λ q. subst (λ (hs : List AfterImage). IsNoted (trimmed r) q (noted_at hs q)) (sym empty) (subst (λ (hs : List AfterImage). IsNoted r q (noted_at hs q)) empty (l.noted q));
          apart = λ b j free lt. not_more (only (block_sector 2 b + j)) (r.is_metadata (block_sector 2 b + j)) (less r l.reading (block_sector 2 b + j)) (l.apart b j free lt);
          leads = l.leads;
          young = l.young;
          batch_leads = l.batch_leads;
          batch_young = l.batch_young;
        } in
        let then : Now released Idle o (trimmed r) t = (
          log_grows o d k e run grows released items refl refl refl refl refl refl refl refl opens k.committed (trimmed r) inside l2 free_then,
          laws.fewer (log_size k.sizes) r only t (less r l.reading) now_.1,
        ) in
        record {
          past = subst (λ (es : List Event). Past k.first (IsAllowed k.logging o es) t) (sym items) (past_stays o d k e run grows k.first t count live.past);
          reading = trimmed r;
          now = subst (λ (j : Job). Now released j o (trimmed r) t) (sym job_is) then;
        }

    pub released_told : IsInStep d → Told d (IsLive o k) → Told d (IsLive o released)
    released_told step told = by_cases d.told step told
      where
        by_cases : (x : Option Tape) → IfSome x (λ t. length t.ops ≡ d.count) → IfSome x (IsLive o k) → IfSome x (IsLive o released)
        by_cases None count live = tt
        by_cases (Some t) count live = released_at t count live
