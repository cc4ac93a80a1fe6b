-- Events over all files.
use Rattle.std.proofs.Common.{◌≡◌, ◌≢◌, ◌<◌, ℕ, Bool, true, false, not, List, [], ◌∷◌, ◌++◌, length, Ok, Err, refl, sym, subst, inl, inr, arith}
use Rattle.std.specs.Prelude.{All, ◌==◌, if◌then◌else◌}
use Rattle.std.proofs.lemmas.Bool.{and_parts, cases_Bool, eq-eqb, eqb-true, ne_eqb}
use Rattle.vx_base.specs.declared.event.Event.{Event}
use Rattle.vx_base.specs.declared.event.Event.TheVariants as event
use Rattle.vx_base.specs.declared.mode.Logging.{Logging}
use Rattle.vx_base.specs.declared.reply.Reply.{Reply}
use Rattle.vx_dev.specs.Tape.{Tape}
use Rattle.vx_model.specs.Allowed.{is_refusal}
use Rattle.vx_model.specs.AllowedLaws.{IsPlaced}
use Rattle.vx_model.specs.Legal.{World}
use Rattle.vx_model.specs.Outcome.{Maybe}
use Rattle.vx_model.specs.Tree.{File}
use Rattle.vx_bytes.specs.Stories.{Story}
use Rattle.vx_bytes.specs.Standings.{OnDevice, Standing, Memory, Mark, Stable, Keeps, part_of}
use Rattle.vx_bytes.specs.Promises.{answers, file_in}
use Rattle.vx_bytes.specs.Histories.{present, story, is_made, last_cut}
use Rattle.vx_bytes.specs.Places.{place_of, placed_in}
use Rattle.vx_bytes.specs.Events.{IsSameFile, IsUntouched, LeavesOthers, IsLonger, IsShorter, IsEmptied, IsSettledNow, IsUnpromising}
use Rattle.vx_bytes.specs.Kept.{Sinces, Progress, memory, HoldsFiles, IsFlushed, IsStableNow, counted_from, sinces_from}
use Rattle.vx_bytes.specs.BlockUse.{GivesUp, UsesBlocks}
use Rattle.vx_bytes.proofs.Turns.{keeps_renewed, keeps_unmounted}
use Rattle.vx_bytes.proofs.Growing.{quiet_by, before, afterwards, same_cut}
use Rattle.vx_bytes.proofs.Cuts.{cut_old}
use Rattle.vx_bytes.proofs.Filing.{at_or_other, closing_low, committed_low, ends_now}
use Rattle.vx_bytes.proofs.Placed.{are_answered}
use Rattle.vx_bytes.proofs.BlockTurns.{apart_next, still_present}
use Rattle.vx_bytes.proofs.Calls.{file_untouched, ready_quiet, ready_answered, file_longer, file_shorter, file_emptied, file_settled}

-- a file with its bytes, or none before and after, is not made or gone
pub same_made : (a b : Maybe File) → IsSameFile a b → is_made a b ≡ false
same_made (Ok f) (Ok g) same = refl
same_made (Err f) (Err g) same = refl
same_made (Ok f) (Err g) same = absurd same
same_made (Err f) (Ok g) same = absurd same

module _ (mode : Logging) (o : World) (h : List Event) (e : Event) (p : Progress) (since : Sinces) (t : Tape) (placed : All (IsPlaced (length h)) h) (un : IsUnpromising e) where
  abbrev h2 : List Event
  h2 = h ++ e ∷ []

  -- the file is left, with its marks
  left : (marks : ℕ → ℕ → Mark) (n : ℕ) → ((q : ℕ) → marks n q ≡ p.marks n q) → IsUntouched (present o h) (present o h2) n → Keeps (story mode o h n) (memory o h p since n) t → Keeps (story mode o h2 n) (memory o h2 (record p { marks = marks }) since n) t
  left marks n same untouched old = file_untouched mode o h e p since t n marks (λ i q. same q i) untouched (λ s which. ready_quiet mode o h e p since t n (are_answered h placed) un s) old

  pub files_untouched : ((n : ℕ) → IsUntouched (present o h) (present o h2) n) → HoldsFiles mode o h p since t → HoldsFiles mode o h2 p since t
  files_untouched each old n = left p.marks n (λ q. refl) (each n) (old n)

  pub files_longer : (marks : ℕ → ℕ → Mark) (ino : ℕ) → ((n q : ℕ) → n ≢ ino → marks n q ≡ p.marks n q) → IsLonger (present o h) (present o h2) ino (p.marks ino) (marks ino) → LeavesOthers (present o h) (present o h2) ino → GivesUp (present o h) (present o h2) (length h) → UsesBlocks o h2 p.committed p.closing →
      HoldsFiles mode o h p since t → HoldsFiles mode o h2 (record p { marks = marks }) since t
  files_longer marks ino same l others gives uses old =
      at_or_other (λ n. Keeps (story mode o h2 n) (memory o h2 (record p { marks = marks }) since n) t) ino
      (file_longer mode o h e p since t ino marks (are_answered h placed) un l (apart_next o h e p since ino (committed_low mode o h p since t ino (old ino)) (closing_low mode o h p since t ino (old ino)) uses (still_present o h e gives (λ n page b was is. stays n))) (old ino))
      (λ n other. left marks n (λ q. same n q other) (others n other) (old n))
    where
      stays : (n : ℕ) → is_made (file_in (present o h) n) (file_in (present o h2) n) ≡ false
      stays = at_or_other (λ n. is_made (file_in (present o h) n) (file_in (present o h2) n) ≡ false) ino (λ i. is_made (l.was_file i) (l.is_file i)) (λ n other. same_made (file_in (present o h) n) (file_in (present o h2) n) (others n other).file)

  pub files_shorter : (ino size : ℕ) → IsShorter (present o h) (present o h2) ino size → LeavesOthers (present o h) (present o h2) ino → HoldsFiles mode o h p since t → HoldsFiles mode o h2 p since t
  files_shorter ino size c others old =
      at_or_other (λ n. Keeps (story mode o h2 n) (memory o h2 p since n) t) ino
      (file_shorter mode o h e p since t ino p.marks size refl (are_answered h placed) un c (old ino))
      (λ n other. left p.marks n (λ q. refl) (others n other) (old n))

  pub files_emptied : (marks : ℕ → ℕ → Mark) (ino : ℕ) → ((n q : ℕ) → n ≢ ino → marks n q ≡ p.marks n q) → IsEmptied (present o h) (present o h2) ino → LeavesOthers (present o h) (present o h2) ino → HoldsFiles mode o h p since t → HoldsFiles mode o h2 (record p { marks = marks }) since t
  files_emptied marks ino same c others old =
      at_or_other (λ n. Keeps (story mode o h2 n) (memory o h2 (record p { marks = marks }) since n) t) ino
      (file_emptied mode o h e p since t ino marks (are_answered h placed) un c (old ino))
      (λ n other. left marks n (λ q. same n q other) (others n other) (old n))

  pub files_settled : (ino : ℕ) → (c : IsSettledNow (present o h) (present o h2) ino) → ((i : ℕ) → i < length c.was.bytes → p.marks ino (part_of i) ≡ Stable) → LeavesOthers (present o h) (present o h2) ino →
      HoldsFiles mode o h p since t → HoldsFiles mode o h2 p (record since { present = counted_from ino (length h2) since.present }) t
  files_settled ino c each others old =
      at_or_other (λ n. Keeps (story mode o h2 n) (memory o h2 p (record since { present = counted_from ino (length h2) since.present }) n) t) ino
      (file_settled mode o h e p since t ino p.marks refl (are_answered h placed) un c each (old ino))
      (λ n other. subst (λ (b : Bool). Keeps (story mode o h2 n) (record (memory o h2 p since n) { present = record (memory o h2 p since n).present { since = λ i. if b then length h2 else since.present.bytes n i; size_since = if b then length h2 else since.present.size n } }) t) (sym (ne_eqb n ino other))
      (left p.marks n (λ q. refl) (others n other) (old n)))

-- ---- the answer of a call

module _ (mode : Logging) (o : World) (h : List Event) (p : Progress) (since : Sinces) (t : Tape) (placed : All (IsPlaced (length h)) h) (at place : ℕ) (answer : Reply) where
  abbrev ret : Event
  ret = event.Ret at place answer

  one : (i : ℕ) → answers i ret ≡ true → i ≡ place
  one i on = (let both : ((place == i) ≡ true) × (not (is_refusal answer) ≡ true) = and_parts (place == i) (not (is_refusal answer)) on in sym (eqb-true place i both.0))

  pub files_answered : place < length h → IsFlushed mode o h place since.committed → ((n : ℕ) → IsUntouched (present o h) (present o (h ++ ret ∷ [])) n) → HoldsFiles mode o h p since t → HoldsFiles mode o (h ++ ret ∷ []) p since t
  files_answered lt on each old n =
      let not_last : answers (length h) ret ≡ false = (elim (cases_Bool (answers (length h) ret)) [ inl answered ↦ absurd (omega (arith, lt, one (length h) answered)) | inr silent ↦ silent ]) in
      file_untouched mode o h ret p since t n p.marks refl (each n) (ready_answered mode o h ret p since t n place (are_answered h placed) refl one not_last on (old n)) (old n)

-- ---- a file with nothing to flush counts from now

module _ (mode : Logging) (o : World) (h : List Event) (p : Progress) (since : Sinces) (t : Tape) where
  stable_place : (n : ℕ) → IsStableNow (present o h) (p.marks n) n → place_of (present o h) n ≡ record { sectors = placed_in (present o h) n; size = (story mode o h n).size (story mode o h n).ends }
  unfolding story
  stable_place n stable i = record { sectors = λ q. stable.sectors q i; size = stable.size i }

  stable_parts : (n : ℕ) → IsStableNow (present o h) (p.marks n) n → (i : ℕ) → i < (story mode o h n).size (story mode o h n).ends → p.marks n (part_of i) ≡ Stable
  unfolding story
  stable_parts n stable i lt = stable.parts i lt

  pub files_renewed : (ino : ℕ) → IsStableNow (present o h) (p.marks ino) ino → HoldsFiles mode o h p since t → HoldsFiles mode o h p (record since { present = counted_from ino (length h) since.present }) t
  files_renewed ino stable old =
      let ends : (story mode o h ino).ends ≡ length h = ends_now mode o h ino in
      let kept : Keeps (story mode o h ino) (record (memory o h p since ino) { present = record { k = length h; place = place_of (present o h) ino; since = λ i. length h; size_since = length h } }) t =
      subst (λ (k : ℕ). Keeps (story mode o h ino) (record (memory o h p since ino) { present = record { k = length h; place = place_of (present o h) ino; since = λ i. k; size_since = k } }) t) ends (keeps_renewed (story mode o h ino) (memory o h p since ino) t (stable_place ino stable) (stable_parts ino stable) (old ino)) in
      at_or_other (λ n. Keeps (story mode o h n) (memory o h p (record since { present = counted_from ino (length h) since.present }) n) t) ino
      (subst (λ (b : Bool). Keeps (story mode o h ino) (record (memory o h p since ino) { present = record { k = length h; place = place_of (present o h) ino; since = λ i. if b then length h else since.present.bytes ino i; size_since = if b then length h else since.present.size ino } }) t) (sym (eq-eqb ino ino refl)) kept)
      (λ n other. subst (λ (b : Bool). Keeps (story mode o h n) (record (memory o h p since n) { present = record (memory o h p since n).present { since = λ i. if b then length h else since.present.bytes n i; size_since = if b then length h else since.present.size n } }) t) (sym (ne_eqb n ino other)) (old n))

  -- ---- the unmounting

  pub files_unmounted : (e : Event) → ((n : ℕ) → IsUntouched (present o h) (present o (h ++ e ∷ [])) n) → ((n : ℕ) → IsStableNow (present o h) (p.marks n) n) → HoldsFiles mode o h p since t →
      HoldsFiles mode o (h ++ e ∷ []) (record p { committed = length (h ++ e ∷ []); closing = length (h ++ e ∷ []) }) (sinces_from (length (h ++ e ∷ []))) t
  files_unmounted e each stable old n =
      let z : Story = story mode o (h ++ e ∷ []) n in
      let m : Memory = memory o h p since n in
      let same : IsUntouched (present o h) (present o (h ++ e ∷ [])) n = each n in
      let ends : z.ends ≡ length (h ++ e ∷ []) = ends_now mode o (h ++ e ∷ []) n in
      let place : place_of (present o h) n ≡ place_of (present o (h ++ e ∷ [])) n = λ i. record { sectors = λ q. sym (same.sectors q) i; size = sym same.size i } in
      let cut : last_cut o h n ≡ last_cut o (h ++ e ∷ []) n = sym (cut_old o h e n (same_cut (before o h e n) (afterwards o h e n) same.file)) in
      let s : (k : ℕ) → OnDevice → Standing = λ k q. record { k = k; place = q; since = λ i. k; size_since = k } in
      subst (λ (x : Memory). Keeps z x t)
      (λ i. record {
        committed = s (ends i) (place i);
        closing = s (ends i) (place i);
        present = s (ends i) (place i);
        placed = λ q. sym (same.placed q) i;
        marks = p.marks n;
        last_cut = cut i;
      })
      (keeps_unmounted (story mode o h n) z m t (quiet_by mode o h e n same.file) (stable_place n (stable n)) (stable_parts n (stable n)) (old n))
