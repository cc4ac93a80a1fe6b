-- What each kind of event does to what is held of its own file.
use Rattle.std.proofs.Common.{◌≡◌, ◌⊎◌, ◌+◌, ◌/◌, ◌%◌, ◌≤◌, ◌<◌, min, ℕ, Bool, true, false, cond, List, [], ◌∷◌, ◌++◌, length, get_or, Ok, Err, refl, sym, ◌∙◌, ap, subst, inl, inr, arith}
use Rattle.std.specs.Prelude.{◌==◌, Option, Some, None, nat_le, nat_lt}
use Rattle.std.proofs.lemmas.Bool.{eq-eqb}
use Rattle.std.proofs.lemmas.Bool.Decides.{nat_tests}
use Rattle.std.proofs.lemmas.List.{length_push, length-take, get_or-take}
use Rattle.vx_base.specs.declared.event.Event.{Event}
use Rattle.vx_base.specs.declared.mode.Logging.{Logging}
use Rattle.vx_dev.specs.Tape.{Tape}
use Rattle.vx_space.specs.Space.{Space}
use Rattle.vx_space.specs.Leaving.{pages_but, settled_space}
use Rattle.vx_model.specs.LaidOut.{is_unreserved}
use Rattle.vx_model.specs.Layout.{space_at}
use Rattle.vx_model.specs.Legal.{World}
use Rattle.vx_model.specs.Outcome.{Maybe}
use Rattle.vx_model.specs.Tree.{File}
use Rattle.vx_model.specs.Opened.{pages_of}
use Rattle.vx_bytes.specs.Stories.{Story, IsReady, FixesNone}
use Rattle.vx_bytes.specs.Standings.{OnDevice, Standing, Shown, Memory, Mark, Changed, Put, Stable, IsMarked, Keeps, IsApart, part_of, within}
use Rattle.vx_bytes.specs.Promises.{answers, is_unmounting}
use Rattle.vx_bytes.specs.Histories.{present, story, size_of, byte_of, is_cut, is_removed, last_cut, promises_at, promises_size_at}
use Rattle.vx_bytes.specs.Places.{place_of, placed_in, sectors_of}
use Rattle.vx_bytes.specs.Events.{IsSameFile, IsUntouched, IsLonger, IsShorter, ComesOrGoes, IsEmptied, IsSettledNow, IsUnpromising}
use Rattle.vx_bytes.specs.Kept.{Sinces, Progress, memory, IsFlushed, counted_from}
use Rattle.vx_bytes.proofs.Shows.{ready_none, shown_cut}
use Rattle.vx_bytes.proofs.Turns.{after_event, keeps_event, keeps_quiet, keeps_settle, keeps_cut, keeps_emptied}
use Rattle.vx_bytes.proofs.Growing.{AreAnswered, quiet_by, before, afterwards, follows, ready, fixes_none, ends_new, size_now, size_next, byte_now, byte_next, shrinks_next, removes_next, fixes_size_next, not_less, same_cut}
use Rattle.vx_bytes.proofs.Cuts.{cut_new, cut_old}
use Rattle.vx_bytes.proofs.Filing.{closing_low, committed_low, to_memory}
use Rattle.vx_bytes.proofs.PagesGone.{kept_sector, fewer_sectors, lasting_sectors}

module _ (mode : Logging) (o : World) (h : List Event) (e : Event) (p : Progress) (since : Sinces) (t : Tape) (n : ℕ) where
  abbrev y : Story
  y = story mode o h n

  abbrev z : Story
  z = story mode o (h ++ e ∷ []) n

  abbrev m : Memory
  m = memory o h p since n

  abbrev h2 : List Event
  h2 = h ++ e ∷ []

  ends_here : z.ends ≡ length h2
  ends_here = ends_new mode o h e n ∙ sym (length_push h e)

  -- ---- an event that leaves the file

  pub file_untouched : (marks : ℕ → ℕ → Mark) → marks n ≡ p.marks n → IsUntouched (present o h) (present o h2) n → ((s : Standing) → (s ≡ m.committed) ⊎ ((s ≡ m.closing) ⊎ (s ≡ m.present)) → IsReady y z s.since s.size_since) →
      Keeps y m t → Keeps z (memory o h2 (record p { marks = marks }) since n) t
  file_untouched marks marks_are same r old =
      let kept : Keeps z (after_event z m m.placed m.marks) t = keeps_quiet y z m t (quiet_by mode o h e n same.file) (r m.committed (inl refl)) (r m.closing (inr (inl refl))) (r m.present (inr (inr refl))) old in
      let marked : Keeps z (after_event z m m.placed (marks n)) t = subst (λ (ms : ℕ → Mark). Keeps z (after_event z m m.placed ms) t) (sym marks_are) kept in
      to_memory mode o h e p since t n marks since.present z.ends (last_cut o h n) (place_of (present o h) n) (placed_in (present o h) n) (committed_low mode o h p since t n old) (closing_low mode o h p since t n old)
      ends_here (sym (cut_old o h e n (same_cut (before o h e n) (afterwards o h e n) same.file))) (λ i. record { sectors = λ q. sym (same.sectors q) i; size = sym same.size i }) (λ i q. sym (same.placed q) i) marked

  -- it makes nothing stable
  pub ready_quiet : AreAnswered h → IsUnpromising e → (s : Standing) → IsReady y z s.since s.size_since
  ready_quiet answered un s = ready_none y z s.since s.size_since (fixes_none mode o h e n answered un)

  -- or it answers a call that has all that it promises on the device in the committed state
  rises_on : (place : ℕ) → Keeps y m t → IsFlushed mode o h place since.committed → (s : Standing) → (s ≡ m.committed) ⊎ ((s ≡ m.closing) ⊎ (s ≡ m.present)) → ((i : ℕ) → promises_at mode o h n i place ≡ true → place < s.since i) × (promises_size_at mode o h n place ≡ true → place < s.size_since)
  rises_on place old on s (inl a) = rw a (λ i x. on.bytes n i x, λ x. on.size n x)
  rises_on place old on s (inr (inl a)) = rw a (λ i x. omega (arith, on.bytes n i x, old.order.since i), λ x. omega (arith, on.size n x, old.order.size_since))
  rises_on place old on s (inr (inr a)) = rw a (λ i x. omega (arith, on.bytes n i x, old.order.since i, old.order_present.since i), λ x. omega (arith, on.size n x, old.order.size_since, old.order_present.size_since))

  pub ready_answered : (place : ℕ) → AreAnswered h → is_unmounting (Some e) ≡ false → ((i : ℕ) → answers i e ≡ true → i ≡ place) → answers (length h) e ≡ false → IsFlushed mode o h place since.committed → Keeps y m t →
      (s : Standing) → (s ≡ m.committed) ⊎ ((s ≡ m.closing) ⊎ (s ≡ m.present)) → IsReady y z s.since s.size_since
  ready_answered place answered mounted one none on old s which = ready mode o h e n answered none mounted s.since s.size_since
      (λ i j at x. let here : j ≡ place = one j at in subst (λ (k : ℕ). k < s.since i) (sym here) ((rises_on place old on s which).0 i (subst (λ (k : ℕ). promises_at mode o h n i k ≡ true) here x)))
      (λ j at x. let here : j ≡ place = one j at in subst (λ (k : ℕ). k < s.size_since) (sym here) ((rises_on place old on s which).1 (subst (λ (k : ℕ). promises_size_at mode o h n k ≡ true) here x)))

  -- ---- an event that lengthens the file or leaves its length, and may place pages

  nothing_marked : (mark : Mark) (i v : ℕ) → v ≡ 0 → IsMarked mark t None i v
  nothing_marked Changed i v zero_is = tt
  nothing_marked Put i v zero_is = zero_is
  nothing_marked Stable i v zero_is = λ w r. r ∙ sym zero_is

  pub file_longer : (marks : ℕ → ℕ → Mark) → AreAnswered h → IsUnpromising e → (l : IsLonger (present o h) (present o h2) n (p.marks n) (marks n)) → IsApart (placed_in (present o h2) n) m → Keeps y m t → Keeps z (memory o h2 (record p { marks = marks }) since n) t
  file_longer marks answered un l apart old =
      let f : File = l.was in
      let g : File = l.is in
      let r : (s : Standing) → IsReady y z s.since s.size_since = ready_quiet answered un in
      let cut : is_cut (before o h e n) (afterwards o h e n) ≡ false = (λ k. is_cut (l.was_file k) (l.is_file k)) ∙ not_less (length g.bytes) (length f.bytes) l.longer in
      let removed : (i : ℕ) → is_removed (before o h e n) (afterwards o h e n) i ≡ false = λ i. (λ k. is_removed (l.was_file k) (l.is_file k) i) ∙ rw (not_less (length g.bytes) (length f.bytes) l.longer) refl in
      let size_is : z.size z.ends ≡ length g.bytes = size_next mode o h e n ∙ ap size_of l.is_file in
      let byte_is : (i : ℕ) → z.byte i z.ends ≡ get_or g.bytes i 0 = λ i. byte_next mode o h e n i ∙ ap (λ (k : Maybe File). byte_of k i) l.is_file in
      let size_was : y.size y.ends ≡ length f.bytes = size_now mode o h e n ∙ ap size_of l.was_file in
      let byte_was : (i : ℕ) → y.byte i y.ends ≡ get_or f.bytes i 0 = λ i. byte_now mode o h e n i ∙ ap (λ (k : Maybe File). byte_of k i) l.was_file in
      let placed : ℕ → Option ℕ = placed_in (present o h2) n in
      let kept : Keeps z (after_event z m placed (marks n)) t = keeps_event y z m t (follows mode o h e n) placed (marks n) (r m.committed) (r m.closing) (r m.present) (λ i. removes_next mode o h e n i ∙ removed i) (shrinks_next mode o h e n ∙ cut) apart
      (λ i lt. subst (λ (v : ℕ). IsMarked (marks n (part_of i)) t (placed (part_of i)) (within i) v) (sym (byte_is i)) (elim (l.bytes i (subst (λ (k : ℕ). i < k) size_is lt)) [
        | inl off ↦ subst (λ (mark : Mark). IsMarked mark t (placed (part_of i)) (within i) (get_or g.bytes i 0)) (sym off) tt
        | inr (inl stays) ↦
            let there : IsMarked (p.marks n (part_of i)) t (m.placed (part_of i)) (within i) (y.byte i y.ends) = old.marked i (subst (λ (k : ℕ). i < k) (sym size_was) stays.0) in
            subst (λ (v : ℕ). IsMarked (marks n (part_of i)) t (placed (part_of i)) (within i) v) (sym stays.1)
            (subst (λ (mark : Mark). IsMarked mark t (placed (part_of i)) (within i) (get_or f.bytes i 0)) (sym stays.2)
            (subst (λ (q : Option ℕ). IsMarked (p.marks n (part_of i)) t q (within i) (get_or f.bytes i 0)) (sym stays.3)
            (subst (λ (v : ℕ). IsMarked (p.marks n (part_of i)) t (m.placed (part_of i)) (within i) v) (byte_was i) there)))
        | inr (inr none) ↦ subst (λ (q : Option ℕ). IsMarked (marks n (part_of i)) t q (within i) (get_or g.bytes i 0)) (sym none.1) (nothing_marked (marks n (part_of i)) (within i) (get_or g.bytes i 0) none.0)
      ])) old in
      to_memory mode o h e p since t n marks since.present z.ends (last_cut o h n) (place_of (present o h) n) placed (committed_low mode o h p since t n old) (closing_low mode o h p since t n old)
      ends_here (sym (cut_old o h e n cut)) (λ i. record { sectors = λ q. sym (l.sectors q) i; size = sym l.size i }) refl kept

  -- ---- a smaller truncate

  part_stays : (size i : ℕ) → i < size → nat_le (pages_of size) (part_of i / 2) ≡ false
  unfolding part_of
  part_stays size i lt = (let page : i / 512 / 2 < size / 1024 + min 1 (size % 1024) = omega (arith, lt) in grind (arith, page, nat_tests))

  pub file_shorter : (marks : ℕ → ℕ → Mark) (size : ℕ) → marks n ≡ p.marks n → AreAnswered h → IsUnpromising e → IsShorter (present o h) (present o h2) n size → Keeps y m t → Keeps z (memory o h2 (record p { marks = marks }) since n) t
  file_shorter marks size marks_are answered un c old =
      let f : File = c.was in
      let g : File = c.is in
      let was : Space = space_at (present o h).layout n in
      let none : FixesNone y z = fixes_none mode o h e n answered un in
      let goes : ℕ → Bool = nat_le (pages_of size) in
      let long : length g.bytes ≡ size = ap (λ (l : List ℕ). length l) c.bytes ∙ (let a = length-take size f.bytes in omega (arith, a, c.less)) in
      let shorter : nat_lt (length g.bytes) (length f.bytes) ≡ true = grind (arith, long, c.less, nat_tests) in
      let size_is : z.size z.ends ≡ size = size_next mode o h e n ∙ ap size_of c.is_file ∙ long in
      let size_was : y.size y.ends ≡ length f.bytes = size_now mode o h e n ∙ ap size_of c.was_file in
      let e1 : z.ends ≡ y.ends + 1 = (follows mode o h e n).ends in
      let is_now : m.present.k ≡ y.ends = old.present_is in
      let cut : is_cut (before o h e n) (afterwards o h e n) ≡ true = (λ k. is_cut (c.was_file k) (c.is_file k)) ∙ shorter in
      let cuts_here : z.shrinks y.ends ≡ true = shrinks_next mode o h e n ∙ cut in
      let loose : z.fixes_size y.ends ≡ false = fixes_size_next mode o h e n answered (un.silent (length h)) un.mounted in
      let stays : (i : ℕ) → i < size → z.removes i y.ends ≡ false = λ i lt. removes_next mode o h e n i ∙ (λ k. is_removed (c.was_file k) (c.is_file k) i) ∙ (let high : nat_le (length g.bytes) i ≡ false = grind (arith, long, lt, nat_tests) in rw (shorter, high) refl) in
      let shown : Shown z (record m.present { k = y.ends + 1; place = record { sectors = sectors_of (pages_but goes was.settled); size = min size was.size } }) t =
      shown_cut y z (follows mode o h e n) m.present t size (sectors_of (pages_but goes was.settled)) (ready_none y z m.present.since m.present.size_since none) is_now cuts_here loose (ap (λ (k : ℕ). z.size k) (sym e1) ∙ size_is) stays
      (λ i lt. kept_sector goes was.settled (part_of i) (part_stays size i (omega (arith, lt)))) old.present in
      let s : Standing = record m.present { k = z.ends; place = record { sectors = sectors_of (pages_but goes was.settled); size = min was.size size } } in
      let shown2 : Shown z s t = subst (λ (k : ℕ). Shown z (record m.present { k = k; place = record { sectors = sectors_of (pages_but goes was.settled); size = min was.size size } }) t) (sym e1)
      (subst (λ (k : ℕ). Shown z (record m.present { k = y.ends + 1; place = record { sectors = sectors_of (pages_but goes was.settled); size = k } }) t) (let swap : min size was.size ≡ min was.size size = omega arith in swap) shown) in
      let kept : Keeps z (record m { present = s; placed = sectors_of (pages_but goes was.present); last_cut = z.ends }) t = keeps_cut y z m t size (sectors_of (pages_but goes was.present)) s (follows mode o h e n) none (subst (λ (k : ℕ). size < k) (sym size_was) c.less) size_is
      (λ i lt. byte_next mode o h e n i ∙ ap (λ (k : Maybe File). byte_of k i) c.is_file ∙ ap (λ (l : List ℕ). get_or l i 0) c.bytes ∙ get_or-take size f.bytes i 0 lt ∙ sym (byte_now mode o h e n i ∙ ap (λ (k : Maybe File). byte_of k i) c.was_file))
      (λ i lt. kept_sector goes was.present (part_of i) (part_stays size i lt)) (λ q u at. fewer_sectors goes was.present q u at) (λ q u at. fewer_sectors goes was.settled q u at) refl (λ i. omega arith) (omega arith) shown2 old in
      let marked : Keeps z (record m { present = s; placed = sectors_of (pages_but goes was.present); marks = marks n; last_cut = z.ends }) t = subst (λ (ms : ℕ → Mark). Keeps z (record m { present = s; placed = sectors_of (pages_but goes was.present); marks = ms; last_cut = z.ends }) t) (sym marks_are) kept in
      to_memory mode o h e p since t n marks since.present z.ends z.ends (record { sectors = sectors_of (pages_but goes was.settled); size = min was.size size }) (sectors_of (pages_but goes was.present)) (committed_low mode o h p since t n old) (closing_low mode o h p since t n old)
      ends_here (ends_here ∙ sym (cut_new o h e n cut)) (ap (λ (x : Space). record { sectors = sectors_of x.settled; size = x.size }) (sym c.space)) (ap (λ (x : Space). sectors_of x.present) (sym c.space)) marked

  -- ---- the file comes or goes

  comes_cut : (a b : Maybe File) → ComesOrGoes a b → is_cut a b ≡ true
  comes_cut (Ok f) (Ok g) is = absurd is
  comes_cut (Err f) (Err g) is = absurd is
  comes_cut (Ok f) (Err g) is = refl
  comes_cut (Err f) (Ok g) is = refl

  comes_empty : (a b : Maybe File) → ComesOrGoes a b → size_of b ≡ 0
  comes_empty (Ok f) (Ok g) is = absurd is
  comes_empty (Err f) (Err g) is = absurd is
  comes_empty (Ok f) (Err g) is = refl
  comes_empty (Err f) (Ok g) is = ap (λ (l : List ℕ). length l) is

  pub file_emptied : (marks : ℕ → ℕ → Mark) → AreAnswered h → IsUnpromising e → IsEmptied (present o h) (present o h2) n → Keeps y m t → Keeps z (memory o h2 (record p { marks = marks }) since n) t
  unfolding sectors_of
  file_emptied marks answered un c old =
      let size_is : z.size z.ends ≡ 0 = size_next mode o h e n ∙ comes_empty (before o h e n) (afterwards o h e n) c.file in
      let cut : is_cut (before o h e n) (afterwards o h e n) ≡ true = comes_cut (before o h e n) (afterwards o h e n) c.file in
      to_memory mode o h e p since t n marks since.present z.ends z.ends (record { sectors = λ q. None; size = 0 }) (λ q. None) (committed_low mode o h p since t n old) (closing_low mode o h p since t n old)
      ends_here (ends_here ∙ sym (cut_new o h e n cut)) (ap (λ (x : Space). record { sectors = sectors_of x.settled; size = x.size }) (sym c.space)) (ap (λ (x : Space). sectors_of x.present) (sym c.space))
      (keeps_emptied y z m t (marks n) (follows mode o h e n) (fixes_none mode o h e n answered un) size_is old)

  -- ---- a settle

  pub file_settled : (marks : ℕ → ℕ → Mark) → marks n ≡ p.marks n → AreAnswered h → IsUnpromising e → (c : IsSettledNow (present o h) (present o h2) n) → ((i : ℕ) → i < length c.was.bytes → p.marks n (part_of i) ≡ Stable) → Keeps y m t →
      Keeps z (memory o h2 (record p { marks = marks }) (record since { present = counted_from n (length h2) since.present }) n) t
  file_settled marks marks_are answered un c each old =
      let f : File = c.was in
      let was : Space = space_at (present o h).layout n in
      let none : FixesNone y z = fixes_none mode o h e n answered un in
      let same : IsSameFile (before o h e n) (afterwards o h e n) = subst (λ (q : Maybe File). IsSameFile q (afterwards o h e n)) (sym c.was_file) (subst (λ (q : Maybe File). IsSameFile (Ok f) q) (sym c.is_file) (sym c.bytes)) in
      let size_was : y.size y.ends ≡ length f.bytes = size_now mode o h e n ∙ ap size_of c.was_file in
      let e1 : z.ends ≡ y.ends + 1 = (follows mode o h e n).ends in
      let here : Keeps z (record m { present = record { k = z.ends; place = record { sectors = m.placed; size = y.size y.ends }; since = λ i. z.ends; size_since = z.ends } }) t =
      keeps_settle y z m t (λ i. z.ends) (quiet_by mode o h e n same) none (λ i. omega arith) (λ i. let low_since : m.present.since i ≤ y.ends = old.present.recent i in omega (arith, low_since, e1)) (λ i lt. inr (each i (subst (λ (k : ℕ). i < k) size_was lt))) old in
      let counted : Keeps z (record m { present = record { k = length h2; place = record { sectors = m.placed; size = length f.bytes }; since = λ i. cond (n == n) (length h2) (since.present.bytes n i); size_since = cond (n == n) (length h2) (since.present.size n) } }) t =
      subst (λ (b : Bool). Keeps z (record m { present = record { k = length h2; place = record { sectors = m.placed; size = length f.bytes }; since = λ i. cond b (length h2) (since.present.bytes n i); size_since = cond b (length h2) (since.present.size n) } }) t) (sym (eq-eqb n n refl))
      (subst (λ (k : ℕ). Keeps z (record m { present = record { k = k; place = record { sectors = m.placed; size = length f.bytes }; since = λ i. k; size_since = k } }) t) ends_here
      (subst (λ (k : ℕ). Keeps z (record m { present = record { k = z.ends; place = record { sectors = m.placed; size = k }; since = λ i. z.ends; size_since = z.ends } }) t) size_was here)) in
      let marked : Keeps z (record m { present = record { k = length h2; place = record { sectors = m.placed; size = length f.bytes }; since = (counted_from n (length h2) since.present).bytes n; size_since = (counted_from n (length h2) since.present).size n }; marks = marks n }) t =
      subst (λ (ms : ℕ → Mark). Keeps z (record m { present = record { k = length h2; place = record { sectors = m.placed; size = length f.bytes }; since = (counted_from n (length h2) since.present).bytes n; size_since = (counted_from n (length h2) since.present).size n }; marks = ms }) t) (sym marks_are) counted in
      let x : Space = settled_space (is_unreserved f) (length f.bytes) was in
      let place : ◌≡◌ {A = OnDevice} (record { sectors = m.placed; size = length f.bytes }) (place_of (present o h2) n) =
      ap (λ (q : ℕ → Option ℕ). record { sectors = q; size = length f.bytes }) (sym (lasting_sectors (is_unreserved f) was.present c.rising)) ∙ ap (λ (w : Space). record { sectors = sectors_of w.settled; size = w.size }) (sym c.space) in
      to_memory mode o h e p since t n marks (counted_from n (length h2) since.present) (length h2) (last_cut o h n) (record { sectors = m.placed; size = length f.bytes }) (placed_in (present o h) n) (committed_low mode o h p since t n old) (closing_low mode o h p since t n old)
      refl (sym (cut_old o h e n (same_cut (before o h e n) (afterwards o h e n) same))) place (ap (λ (w : Space). sectors_of w.present) (sym c.space)) marked
