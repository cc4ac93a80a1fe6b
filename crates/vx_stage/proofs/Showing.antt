-- What a crash leaves now is allowed by the history, and what passes stays so.
use Rattle.std.proofs.Common.{◌≡◌, ℕ, suc, ◌+◌, ◌<◌, ◌≤◌, true, false, List, [], ◌∷◌, length, take, Option, Some, None, refl, sym, ap, subst, ◌∙◌, arith, inl, inr, length-append}
use Rattle.std.specs.Prelude.{IfSome, option_map, nat_le, All}
use Rattle.std.specs.List.{AllByRecursion}
use Rattle.std.proofs.lemmas.Bool.{cases_lt}
use Rattle.std.proofs.lemmas.Bool.Decides.{nat_tests}
use Rattle.std.proofs.lemmas.List.{take-append-le, take_all}
use Rattle.std.proofs.lemmas.List.Elements.{All-head, All-tail}
use Rattle.vx_base.specs.declared.call.Call.{Call}
use Rattle.vx_base.specs.declared.event.Event.{Event}
use Rattle.vx_dev.specs.declared.device.Operation.{Operation}
use Rattle.vx_dev.specs.Tape.{Tape, State as Device, upto, IsImage, IsInStep}
use Rattle.vx_layout.specs.LogForms.{AfterImage, IsNameable, IsRecord, LogState, ReadsAs, homes_of, overlay_all}
use Rattle.vx_layout.specs.Places.{Volume, sectors_of}
use Rattle.vx_layout.specs.Supers.{IsSuper, super_bytes, volume_of}
use Rattle.vx_layout.specs.declared.superblock.Super.{Super}
use Rattle.vx_dev.specs.Moments.{Told, Past, Always, Passed}
use Rattle.vx_dev.specs.Runs.{did_all}
use Rattle.vx_model.specs.Allowed.{come_by, call_at}
use Rattle.vx_model.specs.Contents.{parsed_of}
use Rattle.vx_model.specs.Images as images
use Rattle.vx_model.specs.Images.{Says}
use Rattle.vx_model.specs.Layout.{volume}
use Rattle.vx_model.specs.Legal.{World, at_of}
use Rattle.vx_model.specs.Reads.{ImageReadsAs}
use Rattle.vx_model.specs.Replays.{ReplaysAs}
use Rattle.vx_model.specs.Settled.{ReplaysSettled, laid_over}
use Rattle.vx_sound.specs.Said.{block_bytes}
use Rattle.vx_model.specs.State.{State}
use Rattle.vx_sound.specs.Sound.{IsSound}
use Rattle.vx_model.specs.Allowed.{has_front, HoldsFront, IsAllowed}
use Rattle.vx_stage.specs.Leads.{state_at}
use Rattle.vx_stage.specs.Kernels.{mounted_super, log_size, device_size, IsMounted, IsReadingOf, HasRun}
use Rattle.vx_stage.specs.KernelLaws.{KernelLaws}
use Rattle.vx_stage.specs.declared.kernel.Kernel.{Kernel}

-- ---- an image that is read so replays as the state's tree with what is settled

pub same_volume : (v : Super) (s : State) → IsMounted v s → volume s.layout ≡ volume_of v
same_volume v s m = λ i. record { block = 1024; first = 2 + m.log_blocks i; units = m.units i }

-- the device has room for what the superblock says
pub has_room : (v : Super) (s : State) → IsMounted v s → device_size v ≤ s.layout.device_sectors
has_room v s m = subst (λ (w : Volume). sectors_of w ≤ s.layout.device_sectors) (same_volume v s m) m.consistent.laid_out.room

-- on a larger device records may name as many sectors at least
wider_names : (n few many : ℕ) → few ≤ many → (ss : List ℕ) → AllByRecursion (IsNameable n few) ss → AllByRecursion (IsNameable n many) ss
wider_names n few many le [] h = tt
wider_names n few many le (s ∷ ss) h = (record { home = h.0.home; inside = omega (arith, h.0.inside, le); low = h.0.low }, wider_names n few many le ss h.1)

wider_forms : (n few many : ℕ) → few ≤ many → (rs : List (List AfterImage)) → AllByRecursion (IsRecord n few) rs → AllByRecursion (IsRecord n many) rs
wider_forms n few many le [] h = tt
wider_forms n few many le (r ∷ rs) h = (record { some = h.0.some; few = h.0.few; rising = h.0.rising; homes = wider_names n few many le (homes_of r) h.0.homes }, wider_forms n few many le rs h.1)

module _ (laws : KernelLaws) where
  pub replays : (v : Super) (s : State) (r : LogState) (image : ℕ → List ℕ) → IsSuper v → IsMounted v s → IsReadingOf v s r → ReadsAs (log_size v) r image → ReplaysSettled s image
  replays v s r image is_super m k reads =
      let over : ℕ → List ℕ = λ q. overlay_all r.records q (image q) in
      let stands : images.Stands (volume_of v) (parsed_of s) over = laws.says_stands v (parsed_of s) r image k.says reads in
      let super_is : image 0 ≡ super_bytes (mounted_super v) = sym (k.unnamed (image 0)) ∙ reads.metadata 0 k.superblock ∙ k.superblock_is in
      let mounted : IsSuper (mounted_super v) = record { log_low = is_super.log_low; log_high = is_super.log_high; units_low = is_super.units_low; units_high = is_super.units_high } in
      let here : images.Stands (volume s.layout) (parsed_of s) over = subst (λ (w : Volume). images.Stands w (parsed_of s) over) (sym (same_volume v s m)) stands in
      let found = laws.tree s (block_bytes (volume s.layout) over) m.consistent.laid_out in
      record {
        tree = found.0;
        settled = found.1;
        replays = record {
          first = mounted_super v;
          is_first = mounted;
          first_is = super_is;
          first_room = has_room v s m;
          records = r.records;
          superblock = mounted_super v;
          is_super = mounted;
          superblock_is = k.unnamed (image 0) ∙ super_is;
          same_log = refl;
          room = has_room v s m;
          log = record { serial = r.serial; tail = r.tail; head = r.head; serial_limit = k.serial; limit = k.limit; form = wider_forms (log_size v) (device_size v) s.layout.device_sectors (has_room v s m) r.records k.form; head_is = reads.head_is; ends = reads.ends; fits = reads.fits; whole = reads.whole };
          sound = subst (λ (w : Volume). IsSound false w over) (same_volume v s m) (laws.sound s over m.consistent here);
          reads = subst (λ (w : Volume). ImageReadsAs w over found.0) (same_volume v s m) (laws.reads s over found.0 m.consistent.laid_out here found.1);
        };
      }

-- ---- and is allowed

nat_le-true : (a b : ℕ) → a ≤ b → nat_le a b ≡ true
nat_le-true a b h = grind (arith, nat_tests)

all_in : (history : List Event) (count m : ℕ) → count ≤ m → All (λ e. at_of e ≤ count) history → come_by history m ≡ length history
all_in [] count m le all = refl
all_in (e ∷ history) count m le all =
    let first : at_of e ≤ count = All-head (λ (x : Event). at_of x ≤ count) e history all in
    let test : nat_le (at_of e) m ≡ true = nat_le-true (at_of e) m (omega (arith, first, le)) in
    rw test (ap suc (all_in history count m le (All-tail (λ (x : Event). at_of x ≤ count) e history all)))

module _ (o : World) (d : Device) (k : Kernel) (run : HasRun o d k) where
  pub front_on : (i m : ℕ) → k.committed ≤ i → HoldsFront k.logging k.history.items m i
  front_on i m le = record {
    returned = λ at place answer there early told. later (call_at k.history.items place) place ((run.durable m).returned at place answer there early told);
    unmounted = λ at place is early. omega (arith, le, (run.durable m).unmounted at place is early);
  }
    where
      later : (o : Option Call) (place : ℕ) → IfSome o (λ c. has_front k.logging c ≡ true → place < k.committed) → IfSome o (λ c. has_front k.logging c ≡ true → place < i)
      later None place h = tt
      later (Some c) place h = λ front. omega (arith, le, h front)

  pub allowed : KernelLaws → (i m : ℕ) (image : ℕ → List ℕ) → k.committed ≤ i → i ≤ length k.history.items → d.count ≤ m → ReplaysSettled (state_at o k.history.items i) image → IsAllowed k.logging o k.history.items m image
  allowed laws i m image low high late is = record {
    tree = is.tree;
    replays = subst (λ (sectors : ℕ). ReplaysAs sectors image is.tree) (laws.allowed.device o (take i k.history.items)) is.replays;
    events = i;
    durable = front_on i m low;
    come = omega (arith, high, all_in k.history.items d.count m late run.come);
    shape_is = laws.shape_is (state_at o k.history.items i) (block_bytes (volume (state_at o k.history.items i).layout) (laid_over is.replays.records image)) is.tree is.settled;
  }

-- ---- operations, and each moment of them

module _ (P : ℕ → (ℕ → List ℕ) → Type 0) (Q : (ℕ → List ℕ) → Type 0) (first : ℕ) where
  upto-front : (m : ℕ) (ops : List Operation) (t : Tape) → m ≤ length t.ops → upto m (did_all ops t) ≡ upto m t
  upto-front m ops t le = ap (λ (l : List Operation). record { start = t.start; ops = l }) (take-append-le m t.ops ops le)

  upto-all : (t : Tape) → upto (length t.ops) t ≡ t
  upto-all t = ap (λ (l : List Operation). record { start = t.start; ops = l }) (take_all (length t.ops) t.ops (omega arith))

  on_tape : (t : Tape) (ops : List Operation) → ((m : ℕ) (image : ℕ → List ℕ) → length t.ops ≤ m → Q image → P m image) → Past first P t → Always (length t.ops) (λ _ image. Q image) (did_all ops t)
      → Past first P (did_all ops t) × ((image : ℕ → List ℕ) → IsImage (did_all ops t) image → P (length (did_all ops t).ops) image)
  on_tape t ops way past all = (
    (λ m from lt image is. elim (cases_lt m (length t.ops)) [
      | inl soon ↦ past m from soon image (subst (λ (u : Tape). IsImage u image) (upto-front m ops t (omega (arith, soon))) is)
      | inr on ↦ way m image (omega (arith, on)) (all m (omega (arith, on)) (omega (arith, lt)) image is)
    ]),
    (λ image is.
        let long : length (did_all ops t).ops ≡ length t.ops + length ops = length-append t.ops ops in
        way (length (did_all ops t).ops) image (omega (arith, long)) (all (length (did_all ops t).ops) (omega (arith, long)) (omega arith) image (subst (λ (u : Tape). IsImage u image) (sym (upto-all (did_all ops t))) is))),
  )

  -- from one state of the device to the next
  pub passes : (a b : Device) → IsInStep a → ((m : ℕ) (image : ℕ → List ℕ) → a.count ≤ m → Q image → P m image) → Passed Q a b → Told a (Past first P)
      → Told b (λ t. Past first P t × ((image : ℕ → List ℕ) → IsImage t image → P (length t.ops) image))
  passes a b step way passed past = by_cases a.told b.told step passed.told passed.always past
    where
      by_cases : (x y : Option Tape) → IfSome x (λ t. length t.ops ≡ a.count) → y ≡ option_map (did_all passed.ops) x → IfSome x (λ t. Always (length t.ops) (λ _ image. Q image) (did_all passed.ops t)) → IfSome x (Past first P)
          → IfSome y (λ t. Past first P t × ((image : ℕ → List ℕ) → IsImage t image → P (length t.ops) image))
      by_cases None y count is all h = subst (λ (z : Option Tape). IfSome z (λ t. Past first P t × ((image : ℕ → List ℕ) → IsImage t image → P (length t.ops) image))) (sym is) tt
      by_cases (Some t) y count is all h = subst (λ (z : Option Tape). IfSome z (λ u. Past first P u × ((image : ℕ → List ℕ) → IsImage u image → P (length u.ops) image))) (sym is)
          (on_tape t passed.ops (λ m image le q. way m image (omega (arith, le, count)) q) h all)
