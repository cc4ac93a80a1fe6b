-- The closing batch joins the log: its head sector is written.
use Rattle.std.proofs.Common.{◌≡◌, ◌⊎◌, ℕ, ◌+◌, ◌<◌, ◌≤◌, ◌^◌, Bool, true, false, cond, List, [], ◌∷◌, ◌++◌, length, Option, Some, None, refl, sym, ap, subst, ◌∙◌, arith, inl, inr}
use Rattle.std.specs.Prelude.{◌||◌, ◌==◌, is_some, IsTrue, IfSome, All, option_map}
use Rattle.std.specs.List.{AllByRecursion}
use Rattle.std.specs.List.Sorted.{IsStrictlyIncreasing}
use Rattle.std.proofs.lemmas.Bool.{eqb-true}
use Rattle.std.proofs.lemmas.List.Elements.{All-head, All-tail}
use Rattle.vx_dev.specs.Tape.{State as Device}
use Rattle.vx_sound.specs.Reading.{Form, form_bytes}
use Rattle.vx_layout.specs.LogForms.{AfterImage, IsNameable, IsRecord, LogState, log_length, records_of, overlay, overlay_all}
use Rattle.vx_layout.specs.Places.{Volume, is_data, block_sector, sector_part}
use Rattle.vx_layout.specs.Supers.{volume_of}
use Rattle.vx_layout.specs.declared.superblock.Super.{Super}
use Rattle.vx_log.specs.Batches.{sectors_of}
use Rattle.vx_log.specs.Crashes.{IsApart, Covers, grown}
use Rattle.vx_log.specs.Logs.{LogView, IsClosing, next_serial}
use Rattle.vx_log.specs.declared.log.Closing.{Closing}
use Rattle.vx_log.specs.Batches.{with_notes, noted_at}
use Rattle.vx_model.specs.Contents.{parsed_of}
use Rattle.vx_model.specs.Images.{is_metadata, content_at}
use Rattle.vx_model.specs.Layout.{volume}
use Rattle.vx_model.specs.LaidOut.{HoldsData}
use Rattle.vx_model.specs.Legal.{World}
use Rattle.vx_model.specs.State.{State}
use Rattle.vx_stage.specs.Leads.{state_at}
use Rattle.vx_stage.specs.Kernels.{log_size, device_size, IsInside, IsMounted, IsReadingOf, IsNoted, HasRun, IsLogOf, present}
use Rattle.vx_stage.specs.KernelLaws.{KernelLaws}
use Rattle.vx_stage.specs.Leads.{Leads, IsYoung}
use Rattle.vx_stage.specs.declared.kernel.Job.{Job}
use Rattle.vx_stage.specs.declared.kernel.Kernel.{Kernel}
use Rattle.vx_stage.proofs.Merging.{note_cases, covered, says_next}
use Rattle.vx_stage.proofs.Showing.{same_volume}

-- ---- truths

pub or_left : (a b : Bool) → IsTrue a → IsTrue (a || b)
or_left true b h = refl
or_left false b h = absurd cc

pub or_right : (a b : Bool) → IsTrue b → IsTrue (a || b)
or_right true b h = refl
or_right false b h = h

pub or_cases : (a b : Bool) → IsTrue (a || b) → IsTrue a ⊎ IsTrue b
or_cases true b h = inl refl
or_cases false b h = inr h

pub or_false : (a b : Bool) → a ≡ false → b ≡ false → (a || b) ≡ false
or_false true b h k = absurd cc
or_false false b h k = k

-- ---- blocks

-- a block that may hold bytes holds no metadata, and waits for nothing
pub not_young : (s : State) (place b : ℕ) → HoldsData s.layout b → IsYoung s place b → ⊥
not_young s place b holds young = elim young [
  | inl there ↦ let no : true ≡ false = sym there.1 ∙ holds.unnamed there.0 in cc
  | inr (p, waits) ↦ let no : None ≡ Some p = sym holds.ready ∙ waits.0 in cc
]

noted_none : (x : Option (List ℕ)) (Y : Type 0) → IfSome x (λ _. Y) → (Y → ⊥) → is_some x ≡ false
noted_none None Y h f = refl
noted_none (Some image) Y h f = absurd (f h)

pub claim_none : {A B : Type 0} (f : A → B) (x : Option A) → (is_some x ≡ true → ⊥) → is_some (option_map f x) ≡ false
claim_none f None g = refl
claim_none f (Some a) g = absurd (g refl)

-- ---- lists

overlay_all-append : (rs qs : List (List AfterImage)) (s : ℕ) (x : List ℕ) → overlay_all (rs ++ qs) s x ≡ overlay_all qs s (overlay_all rs s x)
overlay_all-append [] qs s x = refl
overlay_all-append (r ∷ rs) qs s x = overlay_all-append rs qs s (overlay r s x)

both_forms : (n size : ℕ) (rs qs : List (List AfterImage)) → AllByRecursion (IsRecord n size) rs → AllByRecursion (IsRecord n size) qs → AllByRecursion (IsRecord n size) (rs ++ qs)
both_forms n size [] qs h k = k
both_forms n size (r ∷ rs) qs h k = (h.0, both_forms n size rs qs h.1 k)

noted_inside : (v : Super) (batch : List AfterImage) (q : ℕ) (image : List ℕ) → All (IsInside v) batch → noted_at batch q ≡ Some image → 4 + log_size v ≤ q
noted_inside v [] q image all is = absurd cc
noted_inside v (e ∷ batch) q image all is = here (noted_inside v batch q image (All-tail (IsInside v) e batch all)) (e.0 == q) refl is
  where
    here : (noted_at batch q ≡ Some image → 4 + log_size v ≤ q) → (t : Bool) → (e.0 == q) ≡ t → cond t (Some e.1) (noted_at batch q) ≡ Some image → 4 + log_size v ≤ q
    here rest true same found = let low : 4 + log_size v ≤ e.0 = (All-head (IsInside v) e batch all).0 in subst (λ (s : ℕ). 4 + log_size v ≤ s) (eqb-true e.0 q same) low
    here rest false other found = rest found

nameable : (v : Super) (batch : List AfterImage) → device_size v ≤ 2 ^ 32 → All (IsInside v) batch → AllByRecursion (IsNameable (log_size v) (device_size v)) (sectors_of batch)
nameable v [] small all = tt
nameable v (e ∷ batch) small all = (
  let low : 4 + log_size v ≤ e.0 = (All-head (IsInside v) e batch all).0 in
      let high : e.0 < device_size v = (All-head (IsInside v) e batch all).1 in
      record { home = inr low; inside = high; low = omega (arith, high, small) },
  nameable v batch small (All-tail (IsInside v) e batch all),
)

-- ---- the reading with the batch

module _ (laws : KernelLaws) (o : World) (k : Kernel) (a : Device) (run : HasRun o a k) (small : device_size k.sizes ≤ 2 ^ 32) (r : LogState) (l : IsLogOf o k k.committed r) (c : Closing) (is : k.log.closing ≡ Some c)
    (inside : All (IsInside k.sizes) c.batch) (closing_fits : IsClosing k.log.sectors k.log.tail k.log.head c) where
  abbrev vol : Volume
  vol = volume_of k.sizes

  abbrev new : State
  new = state_at o k.history.items k.closing

  rising : IsStrictlyIncreasing (sectors_of c.batch)
  rising = closing_fits.batch.rising

  leads : Leads vol (parsed_of (state_at o k.history.items k.committed)) (parsed_of new) c.batch
  leads = l.batch_leads c is

  abbrev next_metadata : ℕ → Bool
  next_metadata q = r.is_metadata q || (is_metadata vol (parsed_of new) q || is_some (noted_at c.batch q))

  abbrev pub next : LogState
  next = grown r (records_of c.batch) next_metadata

  noted_cases : (q : ℕ) → IsTrue (is_some (noted_at c.batch q)) → (image : List ℕ) × (noted_at c.batch q ≡ Some image)
  noted_cases q there = by_note (noted_at c.batch q) refl there
    where
      by_note : (x : Option (List ℕ)) → noted_at c.batch q ≡ x → IsTrue (is_some x) → (image : List ℕ) × (noted_at c.batch q ≡ Some image)
      by_note None e h = absurd cc
      by_note (Some image) e h = (image, e)

  meta_cases : (q : ℕ) → IsTrue (next_metadata q) → IsTrue (r.is_metadata q) ⊎ (IsTrue (is_metadata vol (parsed_of new) q) ⊎ ((image : List ℕ) × (noted_at c.batch q ≡ Some image)))
  meta_cases q there = elim (or_cases (r.is_metadata q) (is_metadata vol (parsed_of new) q || is_some (noted_at c.batch q)) there) [
    | inl before ↦ inl before
    | inr rest ↦ elim (or_cases (is_metadata vol (parsed_of new) q) (is_some (noted_at c.batch q)) rest) [
      | inl now_there ↦ inr (inl now_there)
      | inr named ↦ inr (inr (noted_cases q named))
    ]
  ]

  pub apart_next : IsApart (log_size k.sizes) r.is_metadata → IsApart (log_size k.sizes) next_metadata
  apart_next apart q there = elim (meta_cases q there) [
    | inl before ↦ apart q before
    | inr rest ↦ elim rest [
      | inl now_there ↦ inr (laws.past_log k.sizes (parsed_of new) q now_there)
      | inr (image, named) ↦ inr (noted_inside k.sizes c.batch q image inside named)
    ]
  ]

  decided : (q : ℕ) (image : List ℕ) → noted_at c.batch q ≡ Some image → (x y : List ℕ) → overlay_all (records_of c.batch) q x ≡ overlay_all (records_of c.batch) q y
  decided q image named = laws.decides c.batch q (laws.notes.contains c.batch q image named)

  pub covers_next : Covers r (records_of c.batch) next_metadata
  covers_next q there = elim (meta_cases q there) [
    | inl before ↦ inl before
    | inr rest ↦ elim rest [
      | inl now_there ↦ elim (covered laws.notes vol (parsed_of (state_at o k.history.items k.committed)) (parsed_of new) c.batch rising leads q now_there) [
        | inl before ↦ inl (l.reading.says.sectors q before)
        | inr any ↦ inr (λ x y. laws.records c.batch q x ∙ any x y ∙ sym (laws.records c.batch q y))
      ]
      | inr (image, named) ↦ inr (decided q image named)
    ]
  ]

  contents_is : (q : ℕ) → next.contents q ≡ overlay c.batch q (r.contents q)
  contents_is q = laws.records c.batch q (r.contents q)

  -- what the records make of a sector that the batch lacks
  lacked : (q : ℕ) → noted_at c.batch q ≡ None → (x : List ℕ) → overlay_all next.records q x ≡ overlay_all r.records q x
  lacked q none x = overlay_all-append r.records (records_of c.batch) q x ∙ laws.records c.batch q (overlay_all r.records q x) ∙ laws.notes.overlay_lacks c.batch q (overlay_all r.records q x) none

  super_lacked : noted_at c.batch 0 ≡ None
  super_lacked = elim (note_cases c.batch 0) [
    | inl (image, named) ↦ absurd (omega (arith, noted_inside k.sizes c.batch 0 image inside named))
    | inr none ↦ none
  ]

  pub next_reading : IsReadingOf k.sizes new next
  next_reading = record {
    says = says_next laws.notes vol (parsed_of (state_at o k.history.items k.committed)) (parsed_of new) c.batch rising leads r next l.reading.says
        (λ q there. or_right (r.is_metadata q) _ (or_left (is_metadata vol (parsed_of new) q) (is_some (noted_at c.batch q)) there)) contents_is;
    superblock = or_left (r.is_metadata 0) _ l.reading.superblock;
    superblock_is = contents_is 0 ∙ laws.notes.overlay_lacks c.batch 0 (r.contents 0) super_lacked ∙ l.reading.superblock_is;
    serial = (let low : next_serial r.serial < 2 ^ 64 = omega arith in low);
    limit = omega (arith, closing_fits.limit, laws.body_length r.head c.batch, l.head);
    form = both_forms (log_size k.sizes) (device_size k.sizes) r.records (records_of c.batch) l.reading.form (laws.form (log_size k.sizes) (device_size k.sizes) c.batch rising (nameable k.sizes c.batch small inside));
    unnamed = λ x. lacked 0 super_lacked x ∙ l.reading.unnamed x;
  }

  still_noted : (q : ℕ) (x : Option (List ℕ)) → noted_at c.batch q ≡ None → IsNoted r q x → IsNoted next q x
  still_noted q None none h = λ x. lacked q none x ∙ h x
  still_noted q (Some image) none h = (
    or_left (r.is_metadata q) _ h.0,
    (λ x y. lacked q none x ∙ h.1 x y ∙ sym (lacked q none y)),
    h.2 ∙ sym (contents_is q ∙ laws.notes.overlay_lacks c.batch q (r.contents q) none),
  )

  now_noted : (q : ℕ) (image : List ℕ) → noted_at c.batch q ≡ Some image → IsNoted next q (Some image)
  now_noted q image named = (
    or_right (r.is_metadata q) _ (or_right (is_metadata vol (parsed_of new) q) (is_some (noted_at c.batch q)) (ap is_some named)),
    (λ x y. overlay_all-append r.records (records_of c.batch) q x ∙ decided q image named (overlay_all r.records q x) (overlay_all r.records q y) ∙ sym (overlay_all-append r.records (records_of c.batch) q y)),
    sym (contents_is q ∙ laws.notes.overlay_has c.batch q image (r.contents q) rising named),
  )

  pub next_noted : (q : ℕ) → IsNoted next q (noted_at (with_notes k.homes c.batch) q)
  next_noted q = elim (note_cases c.batch q) [
    | inl (image, named) ↦ subst (IsNoted next q) (sym (laws.notes.batch k.homes c.batch q image rising named)) (now_noted q image named)
    | inr none ↦ subst (IsNoted next q) (sym (laws.notes.batch_other k.homes c.batch q none)) (still_noted q (noted_at k.homes q) none (l.noted q))
  ]

  -- no block that may hold bytes becomes metadata: neither the closing state nor the batch has it
  pub next_apart : (b j : ℕ) → HoldsData (present o k).layout b → j < 2 → next_metadata (block_sector 2 b + j) ≡ false
  next_apart b j holds lt =
      let q : ℕ = block_sector 2 b + j in
      let s : State = present o k in
      let data_ : is_data (volume s.layout) b ≡ true = holds.data_block in
      let here : volume s.layout ≡ vol = same_volume k.sizes s (present_mounted) in
      let content : content_at vol (parsed_of new) q ≡ option_map (λ x. sector_part j (form_bytes 1024 x)) ((parsed_of new).forms b) = laws.parts k.sizes (parsed_of new) b j (subst (λ (w : Volume). is_data w b ≡ true) here data_) lt in
      let unclaimed : is_some (option_map (λ x. sector_part j (form_bytes 1024 x)) ((parsed_of new).forms b)) ≡ false =
      claim_none (λ (x : Form). sector_part j (form_bytes 1024 x)) ((parsed_of new).forms b) (λ there. not_young s k.closing b holds (run.named k.closing b run.order run.within (laws.formed new b there))) in
      or_false (r.is_metadata q) _ (l.apart b j holds lt)
      (or_false (is_metadata vol (parsed_of new) q) (is_some (noted_at c.batch q)) (ap is_some content ∙ unclaimed)
      (noted_none (noted_at c.batch q) (IsYoung s k.committed b) (l.batch_young c is b j data_ lt) (not_young s k.committed b holds)))
    where
      present_mounted : IsMounted k.sizes (present o k)
      present_mounted = run.mounted_now

  -- the kernel once the head sector with the batch is written
  pub gate_log : (log : LogView) (homes : List AfterImage) (ready : Option (List AfterImage)) (job : Job) → homes ≡ with_notes k.homes c.batch → log.closing ≡ None
      → log.serial ≡ next_serial k.log.serial → log.tail ≡ k.log.tail → log.head ≡ k.log.head + log_length (length c.batch) → IsLogOf o (record k { log = log; homes = homes; ready = ready; job = job }) k.closing next
  gate_log log homes ready job homes_is none serial tail head = record {
    reading = next_reading;
    serial = ap next_serial l.serial ∙ sym serial;
    tail = l.tail ∙ sym tail;
    head = (let long : next.head ≡ k.log.head + log_length (length c.batch) = omega (arith, l.head, laws.body_length r.head c.batch) in long) ∙ sym head;
    noted = λ q. subst (λ (hs : List AfterImage). IsNoted next q (noted_at hs q)) (sym homes_is) (next_noted q);
    apart = next_apart;
    leads = l.leads;
    young = l.young;
    batch_leads = λ d e. absurd (let wrong : ◌≡◌ {A = Option Closing} None (Some d) = sym none ∙ e in cc);
    batch_young = λ d e. absurd (let wrong : ◌≡◌ {A = Option Closing} None (Some d) = sym none ∙ e in cc);
  }
