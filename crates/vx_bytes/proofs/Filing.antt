-- From what holds of one file to the memory of a mount, and operations over all files.
use Rattle.std.proofs.Common.{◌≡◌, ◌≢◌, ◌⊎◌, ◌≤◌, ℕ, Bool, true, List, [], ◌∷◌, ◌++◌, length, get_or, refl, sym, ◌∙◌, subst, inl, inr, arith}
use Rattle.std.specs.Prelude.{Option, Some, ◌==◌, if◌then◌else◌}
use Rattle.std.proofs.lemmas.Bool.{cases_eq, eq-eqb, ne_eqb, both_ways}
use Rattle.vx_base.specs.declared.event.Event.{Event}
use Rattle.vx_base.specs.declared.mode.Logging.{Logging}
use Rattle.vx_dev.specs.declared.device.Operation.{Operation}
use Rattle.vx_dev.specs.declared.device.Operation.TheVariants.{Barrier}
use Rattle.vx_dev.specs.Laws.{TapeLaws}
use Rattle.vx_dev.specs.Tape.{Tape, Settles, did, Writes}
use Rattle.vx_model.specs.Legal.{World}
use Rattle.vx_model.specs.State.{State}
use Rattle.vx_bytes.specs.Standings.{OnDevice, Memory, Mark, Changed, Keeps, IsElsewhere, part_of, within}
use Rattle.vx_bytes.specs.Standings.{Put as Sent}
use Rattle.vx_bytes.specs.Histories.{state_at, present, last_cut, story}
use Rattle.vx_bytes.specs.Places.{place_of, placed_in}
use Rattle.vx_bytes.specs.Kept.{Since, Sinces, Progress, memory_of, memory, marked, all_passed, HoldsFiles, IsApartFromFiles}
use Rattle.vx_bytes.proofs.Turns.{keeps_elsewhere, keeps_put, keeps_barrier, keeps_close, keeps_commit}
use Rattle.vx_bytes.proofs.Growing.{state_old}

pub ends_now : (mode : Logging) (o : World) (h : List Event) (n : ℕ) → (story mode o h n).ends ≡ length h
unfolding story
ends_now mode o h n = refl

pub at_or_other : (P : ℕ → Type 0) (ino : ℕ) → P ino → ((n : ℕ) → n ≢ ino → P n) → (n : ℕ) → P n
at_or_other P ino here other n = elim (cases_eq n ino) [ inl same ↦ subst P (sym same) here | inr apart ↦ other n apart ]

-- what is named lies apart
pub elsewhere_by : (o : World) (h : List Event) (p : Progress) (since : Sinces) (is_named : ℕ → Bool) (u : ℕ) → is_named u ≡ true → IsApartFromFiles o h p.committed p.closing is_named → (n : ℕ) → IsElsewhere u (memory o h p since n)
elsewhere_by o h p since is_named u on apart n = record {
  placed = λ q at. absurd (both_ways (is_named u) (apart.placed_sectors n q u at) on);
  committed = λ q at. absurd (both_ways (is_named u) (apart.committed_sectors n q u at) on);
  closing = λ q at. absurd (both_ways (is_named u) (apart.closing_sectors n q u at) on);
  present = λ q at. absurd (both_ways (is_named u) (apart.present_sectors n q u at) on);
}

module _ (mode : Logging) (o : World) (h : List Event) (p : Progress) (since : Sinces) (t : Tape) where
  pub closing_low : (n : ℕ) → Keeps (story mode o h n) (memory o h p since n) t → p.closing ≤ length h
  closing_low n old = omega (arith, old.closing.inside, ends_now mode o h n)

  pub committed_low : (n : ℕ) → Keeps (story mode o h n) (memory o h p since n) t → p.committed ≤ length h
  committed_low n old = omega (arith, old.order.k, old.closing.inside, ends_now mode o h n)

  -- ---- operations

  -- a write of the log, of a head sector, of the superblock or of homes
  pub files_elsewhere : (op : Operation) (u : ℕ) (bytes : List ℕ) → Writes op u bytes → ((n : ℕ) → IsElsewhere u (memory o h p since n)) → HoldsFiles mode o h p since t → HoldsFiles mode o h p since (did op t)
  files_elsewhere op u bytes w out old n = keeps_elsewhere (story mode o h n) (memory o h p since n) t op u bytes w (out n) (old n)

  pub files_barrier : TapeLaws → HoldsFiles mode o h p since t → HoldsFiles mode o h (all_passed p) since (did Barrier t)
  files_barrier laws old n = keeps_barrier (story mode o h n) (memory o h p since n) t laws (old n)

  -- one half of a page is put, or a write of it failed
  pub files_put : (ino q u : ℕ) (bytes : List ℕ) (op : Operation) (mark : Mark) → Writes op u bytes → (mark ≡ Changed) ⊎ ((mark ≡ Sent) × Settles (did op t) u bytes) →
      placed_in (present o h) ino q ≡ Some u →
      ((place_of (state_at o h p.committed) ino).sectors q ≡ Some u → last_cut o h ino ≤ p.committed) → ((place_of (state_at o h p.closing) ino).sectors q ≡ Some u → last_cut o h ino ≤ p.closing) → last_cut o h ino ≤ (story mode o h ino).ends →
      ((i : ℕ) → part_of i ≡ q → get_or bytes (within i) 0 ≡ (story mode o h ino).byte i (story mode o h ino).ends) →
      ((n : ℕ) → n ≢ ino → IsElsewhere u (memory o h p since n)) → HoldsFiles mode o h p since t → HoldsFiles mode o h (marked ino q mark p) since (did op t)
  files_put ino q u bytes op mark writes which here after after_closing inside content foreign old n = elim (cases_eq n ino) [
    | inl is ↦
        let marks : ℕ → Mark = λ r. if r == q then mark else p.marks ino r in
        let at_q : marks q ≡ mark = rw (eq-eqb q q refl) refl in
        let mine : Keeps (story mode o h ino) (record (memory o h p since ino) { marks = marks }) (did op t) =
        keeps_put (story mode o h ino) (memory o h p since ino) t q u bytes op marks writes here after after_closing inside content
        (λ r other. rw (ne_eqb r q other) refl) (elim which [ inl off ↦ inl (at_q ∙ off) | inr on ↦ inr (at_q ∙ on.0, on.1) ]) (old ino) in
        subst (λ (k : ℕ). Keeps (story mode o h k) (record (memory o h p since k) { marks = λ r. if k == ino then (if r == q then mark else p.marks k r) else p.marks k r }) (did op t)) (sym is)
        (subst (λ (b : Bool). Keeps (story mode o h ino) (record (memory o h p since ino) { marks = λ r. if b then (if r == q then mark else p.marks ino r) else p.marks ino r }) (did op t)) (sym (eq-eqb ino ino refl)) mine)
    | inr other ↦
        let same : Keeps (story mode o h n) (memory o h p since n) (did op t) = keeps_elsewhere (story mode o h n) (memory o h p since n) t op u bytes writes (foreign n other) (old n) in
        subst (λ (b : Bool). Keeps (story mode o h n) (record (memory o h p since n) { marks = λ r. if b then (if r == q then mark else p.marks n r) else p.marks n r }) (did op t)) (sym (ne_eqb n ino other)) same
  ]

  -- ---- prefixes

  pub files_close : HoldsFiles mode o h p since t → HoldsFiles mode o h (record p { closing = length h }) (record since { closing = since.present }) t
  files_close old n = keeps_close (story mode o h n) (memory o h p since n) t (old n)

  pub files_commit : HoldsFiles mode o h p since t → HoldsFiles mode o h (record p { committed = p.closing }) (record since { committed = since.closing }) t
  files_commit old n = keeps_commit (story mode o h n) (memory o h p since n) t (old n)

-- ---- one event more

module _ (mode : Logging) (o : World) (h : List Event) (e : Event) (p : Progress) (since : Sinces) (t : Tape) (n : ℕ) where
  abbrev h2 : List Event
  h2 = h ++ e ∷ []

  -- The committed and the closing state are what they were. The present one has this place, these sectors and this last cut.
  pub to_memory : (marks : ℕ → ℕ → Mark) (present_since : Since) (k cut : ℕ) (place : OnDevice) (placed : ℕ → Option ℕ) → p.committed ≤ length h → p.closing ≤ length h →
      k ≡ length h2 → cut ≡ last_cut o h2 n → place ≡ place_of (present o h2) n → placed ≡ placed_in (present o h2) n →
      Keeps (story mode o h2 n) (record (memory o h p since n) { present = record { k = k; place = place; since = present_since.bytes n; size_since = present_since.size n }; placed = placed; marks = marks n; last_cut = cut }) t →
      Keeps (story mode o h2 n) (memory o h2 (record p { marks = marks }) (record since { present = present_since }) n) t
  to_memory marks present_since k cut place placed low low_closing k_is cut_is place_is placed_is kept =
      let m : Memory = memory o h p since n in
      let moved : Keeps (story mode o h2 n) (memory_of (state_at o h p.committed) (state_at o h p.closing) (present o h2) (length h2) (last_cut o h2 n) (record p { marks = marks }) (record since { present = present_since }) n) t =
      subst (λ (x : Memory). Keeps (story mode o h2 n) x t)
      (λ i. record {
        committed = m.committed;
        closing = m.closing;
        present = record { k = k_is i; place = place_is i; since = present_since.bytes n; size_since = present_since.size n };
        placed = placed_is i;
        marks = marks n;
        last_cut = cut_is i;
      }) kept in
      subst (λ (s : State). Keeps (story mode o h2 n) (memory_of (state_at o h2 p.committed) s (present o h2) (length h2) (last_cut o h2 n) (record p { marks = marks }) (record since { present = present_since }) n) t) (sym (state_old o h e p.closing low_closing))
      (subst (λ (s : State). Keeps (story mode o h2 n) (memory_of s (state_at o h p.closing) (present o h2) (length h2) (last_cut o h2 n) (record p { marks = marks }) (record since { present = present_since }) n) t) (sym (state_old o h e p.committed low)) moved)
