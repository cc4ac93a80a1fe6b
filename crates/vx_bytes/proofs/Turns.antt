-- Each kind of turn keeps what holds of one file.
use Rattle.std.proofs.Common.{◌≡◌, ◌⊎◌, ◌+◌, ◌≤◌, ◌<◌, ℕ, false, List, get_or, refl, sym, ◌∙◌, ap, subst, inl, inr, arith}
use Rattle.std.specs.Prelude.{Option, Some, None}
use Rattle.std.proofs.lemmas.Bool.{cases_lt, cases_eq}
use Rattle.vx_dev.specs.declared.device.Operation.{Operation}
use Rattle.vx_dev.specs.declared.device.Operation.TheVariants.{Barrier}
use Rattle.vx_dev.specs.Laws.{TapeLaws}
use Rattle.vx_dev.specs.Tape.{Tape, Settles, did, Writes}
use Rattle.vx_bytes.specs.Course.{Joined, May, SizeMay}
use Rattle.vx_bytes.specs.Stories.{Story, size_course, byte_course, Follows, IsReady, FixesNone, IsQuiet}
use Rattle.vx_bytes.specs.Standings.{OnDevice, Standing, Reads, Shown, part_of, within, Mark, Changed, Put, Stable, IsMarked, IsSettled, Memory, IsAlone, Rises, IsApart, Keeps, IsElsewhere, passed}
use Rattle.vx_bytes.proofs.Courses.{joined_self, joined_next}
use Rattle.vx_bytes.proofs.Shows.{reads_put, reads_barrier, ready_none, shown_event, shown_put, shown_barrier, shown_later, shown_renewed, byte_now, size_now}

pub rises_self : (a : Standing) → Rises a a
rises_self a = record { k = omega arith; since = λ o. omega arith; size_since = omega arith }

pub rises_trans : (a b c : Standing) → Rises a b → Rises b c → Rises a c
rises_trans a b c x y = record { k = omega (arith, x.k, y.k); since = λ o. omega (arith, x.since o, y.since o); size_since = omega (arith, x.size_since, y.size_since) }

-- the memory after an event that leaves the three states' places
abbrev pub after_event : Story → Memory → (ℕ → Option ℕ) → (ℕ → Mark) → Memory
after_event z m placed marks = record m { present = record m.present { k = z.ends }; placed = placed; marks = marks }

module _ (y z : Story) (m : Memory) (t : Tape) (follows : Follows y z) where
  -- the place after which nothing was removed, one event later
  uncut_next : Keeps y m t → ((o : ℕ) → z.removes o y.ends ≡ false) → (o i : ℕ) → m.last_cut ≤ i → i < z.ends → z.removes o i ≡ false
  uncut_next old kept o i from to = elim (cases_lt i y.ends) [
    | inl less ↦ follows.removes o i less ∙ old.uncut o i from less
    | inr more ↦
        let here : y.ends ≡ i = omega (arith, more, to, follows.ends) in
        subst (λ (j : ℕ). z.removes o j ≡ false) here (kept o)
  ]

  -- an event that cuts nothing: a write, a growing truncate, a call of another file, an answer, a release
  pub keeps_event : (placed : ℕ → Option ℕ) (marks : ℕ → Mark) →
      IsReady y z m.committed.since m.committed.size_since → IsReady y z m.closing.since m.closing.size_since → IsReady y z m.present.since m.present.size_since →
      ((o : ℕ) → z.removes o y.ends ≡ false) → z.shrinks y.ends ≡ false → IsApart placed m →
      ((o : ℕ) → o < z.size z.ends → IsMarked (marks (part_of o)) t (placed (part_of o)) (within o) (z.byte o z.ends)) →
      Keeps y m t → Keeps z (after_event z m placed marks) t
  keeps_event placed marks ready_c ready_z ready_p kept whole apart marked old =
      let e : z.ends ≡ y.ends + 1 = follows.ends in
      let next : (o : ℕ) → Joined (byte_course z o) m.present.k z.ends = λ o. subst (λ (k : ℕ). Joined (byte_course z o) k z.ends) (sym old.present_is) (subst (λ (k : ℕ). Joined (byte_course z o) y.ends k) (sym e) (joined_next (byte_course z o) y.ends (kept o))) in
      let next_size : Joined (size_course z) m.present.k z.ends = subst (λ (k : ℕ). Joined (size_course z) k z.ends) (sym old.present_is) (subst (λ (k : ℕ). Joined (size_course z) y.ends k) (sym e) (joined_next (size_course z) y.ends whole)) in
      record {
        committed = shown_event y z follows m.committed t ready_c old.committed;
        closing = shown_event y z follows m.closing t ready_z old.closing;
        present = shown_later z m.present t z.ends (omega (arith, old.present_is, e)) (omega arith) next_size (λ o lt. next o) (shown_event y z follows m.present t ready_p old.present);
        present_is = refl;
        order = old.order;
        order_present = record { k = omega (arith, old.closing.inside, e); since = old.order_present.since; size_since = old.order_present.size_since };
        apart = record { itself = apart.itself; committed = apart.committed; closing = apart.closing; present = apart.present };
        uncut = uncut_next old kept;
        marked = marked;
      }

-- an event that leaves the file as it is: a call of another file, a fsync, an answer, a release
pub keeps_quiet : (y z : Story) (m : Memory) (t : Tape) → IsQuiet y z → IsReady y z m.committed.since m.committed.size_since → IsReady y z m.closing.since m.closing.size_since → IsReady y z m.present.since m.present.size_since →
    Keeps y m t → Keeps z (after_event z m m.placed m.marks) t
keeps_quiet y z m t quiet ready_c ready_z ready_p old = keeps_event y z m t quiet.follows m.placed m.marks ready_c ready_z ready_p quiet.unremoved quiet.uncut old.apart
    (λ o lt. subst (λ (v : ℕ). IsMarked (m.marks (part_of o)) t (m.placed (part_of o)) (within o) v) (sym (quiet.same_byte o)) (old.marked o (subst (λ (n : ℕ). o < n) quiet.same_size lt))) old

module _ (y : Story) (m : Memory) (t : Tape) where
  -- where the last cut is before a state
  joined_uncut : Keeps y m t → (k o : ℕ) → m.last_cut ≤ k → k ≤ y.ends → Joined (byte_course y o) y.ends k
  joined_uncut keeps k o after inside i low high = keeps.uncut o i (omega (arith, after, low, inside)) (omega (arith, high, inside))

  -- ---- a part of a page is put

  put_in : Keeps y m t → (op : Operation) (p u : ℕ) (bytes : List ℕ) → Writes op u bytes → m.placed p ≡ Some u →
      ((o : ℕ) → part_of o ≡ p → get_or bytes (within o) 0 ≡ y.byte o y.ends) →
      (s : Standing) → IsAlone m.placed s.place.sectors → (s.place.sectors p ≡ Some u → m.last_cut ≤ s.k) → Shown y s t → Shown y s (did op t)
  put_in keeps op p u bytes w here content s alone after shown =
      shown_put y s t op u bytes w (λ o lt at.
      let part : p ≡ part_of o = alone p (part_of o) u here at in
      subst (λ (x : ℕ). May (s.since o) (byte_course y o) s.k x) (sym (content o (sym part))) (byte_now y o (s.since o) s.k (shown.recent o) (joined_uncut keeps s.k o (after (subst (λ (q : ℕ). s.place.sectors q ≡ Some u) (sym part) at)) shown.inside))) shown

  -- what a mark says where another sector is written
  settled_other : (op : Operation) (u : ℕ) (bytes : List ℕ) → Writes op u bytes → (place : Option ℕ) (i v : ℕ) → (place ≡ Some u → ⊥) → IsSettled t place i v → IsSettled (did op t) place i v
  settled_other op u bytes w None i v other h = h
  settled_other op u bytes w (Some b) i v other (x, settles, is) = (x, w.other t b x (λ same. other (ap (λ (n : ℕ). Some n) same)) settles, is)

  marked_other : (op : Operation) (u : ℕ) (bytes : List ℕ) → Writes op u bytes → (mark : Mark) (place : Option ℕ) (i v : ℕ) → (place ≡ Some u → ⊥) → IsMarked mark t place i v → IsMarked mark (did op t) place i v
  marked_other op u bytes w Changed place i v other h = tt
  marked_other op u bytes w Stable place i v other h = λ x r. elim (reads_put t op u bytes place i x w r) [ inl before ↦ h x before | inr is ↦ absurd (other is.0) ]
  marked_other op u bytes w Put place i v other h = settled_other op u bytes w place i v other h

  -- a changed part is written to its sector, or a write of it failed; the others keep their marks
  pub keeps_put : (p u : ℕ) (bytes : List ℕ) (op : Operation) (marks : ℕ → Mark) → Writes op u bytes → m.placed p ≡ Some u →
      (m.committed.place.sectors p ≡ Some u → m.last_cut ≤ m.committed.k) → (m.closing.place.sectors p ≡ Some u → m.last_cut ≤ m.closing.k) → m.last_cut ≤ y.ends →
      ((o : ℕ) → part_of o ≡ p → get_or bytes (within o) 0 ≡ y.byte o y.ends) →
      ((q : ℕ) → (q ≡ p → ⊥) → marks q ≡ m.marks q) →
      (marks p ≡ Changed) ⊎ ((marks p ≡ Put) × Settles (did op t) u bytes) →
      Keeps y m t → Keeps y (record m { marks = marks }) (did op t)
  keeps_put p u bytes op marks w here after after_closing inside content others mine old = record {
    committed = put_in old op p u bytes w here content m.committed old.apart.committed after old.committed;
    closing = put_in old op p u bytes w here content m.closing old.apart.closing after_closing old.closing;
    present = put_in old op p u bytes w here content m.present old.apart.present (λ at. omega (arith, inside, old.present_is)) old.present;
    present_is = old.present_is;
    order = old.order;
    order_present = old.order_present;
    apart = record { itself = old.apart.itself; committed = old.apart.committed; closing = old.apart.closing; present = old.apart.present };
    uncut = old.uncut;
    marked = λ o lt. elim (cases_eq (part_of o) p) [
      | inl same ↦
          let v : ℕ = y.byte o y.ends in
          let P : Mark → ℕ → Type 0 = λ mark q. IsMarked mark (did op t) (m.placed q) (within o) v in
          let at_p : P (marks p) p = elim mine [
            | inl off ↦ subst (λ (mark : Mark). P mark p) (sym off) tt
            | inr on ↦ subst (λ (mark : Mark). P mark p) (sym on.0) (subst (λ (place : Option ℕ). IsSettled (did op t) place (within o) v) (sym here) (bytes, on.1, content o same))
          ] in
          subst (λ (q : ℕ). P (marks q) q) (sym same) at_p
      | inr other ↦ subst (λ (mark : Mark). IsMarked mark (did op t) (m.placed (part_of o)) (within o) (y.byte o y.ends)) (sym (others (part_of o) other)) (marked_other op u bytes w (m.marks (part_of o)) (m.placed (part_of o)) (within o) (y.byte o y.ends) (λ at. other (sym (old.apart.itself p (part_of o) u here at))) (old.marked o lt))
    ];
  }

  -- ---- a barrier

  marked_passed : TapeLaws → (mark : Mark) (place : Option ℕ) (i v : ℕ) → IsMarked mark t place i v → IsMarked (passed mark) (did Barrier t) place i v
  marked_passed laws Changed place i v h = tt
  marked_passed laws Stable place i v h = λ x r. h x (reads_barrier laws t place i x r)
  marked_passed laws Put None i v h = λ x r. r ∙ sym h
  marked_passed laws Put (Some b) i v (x, settles, is) = λ w r. sym r.2 ∙ ap (λ (l : List ℕ). get_or l i 0) (settles r.0 r.1) ∙ is

  pub keeps_barrier : TapeLaws → Keeps y m t → Keeps y (record m { marks = λ p. passed (m.marks p) }) (did Barrier t)
  keeps_barrier laws old = record {
    committed = shown_barrier y m.committed t laws old.committed;
    closing = shown_barrier y m.closing t laws old.closing;
    present = shown_barrier y m.present t laws old.present;
    present_is = old.present_is;
    order = old.order;
    order_present = old.order_present;
    apart = record { itself = old.apart.itself; committed = old.apart.committed; closing = old.apart.closing; present = old.apart.present };
    uncut = old.uncut;
    marked = λ o lt. marked_passed laws (m.marks (part_of o)) (m.placed (part_of o)) (within o) (y.byte o y.ends) (old.marked o lt);
  }

  -- ---- a write that is of none of the file's sectors: of the log, of homes, of another file

  pub keeps_elsewhere : (op : Operation) (u : ℕ) (bytes : List ℕ) → Writes op u bytes → IsElsewhere u m → Keeps y m t → Keeps y m (did op t)
  keeps_elsewhere op u bytes w out old = record {
    committed = shown_put y m.committed t op u bytes w (λ o lt at. absurd (out.committed (part_of o) at)) old.committed;
    closing = shown_put y m.closing t op u bytes w (λ o lt at. absurd (out.closing (part_of o) at)) old.closing;
    present = shown_put y m.present t op u bytes w (λ o lt at. absurd (out.present (part_of o) at)) old.present;
    present_is = old.present_is;
    order = old.order;
    order_present = old.order_present;
    apart = old.apart;
    uncut = old.uncut;
    marked = λ o lt. marked_other op u bytes w (m.marks (part_of o)) (m.placed (part_of o)) (within o) (y.byte o y.ends) (λ at. out.placed (part_of o) at) (old.marked o lt);
  }

  -- ---- prefixes rise

  -- a commit begins
  pub keeps_close : Keeps y m t → Keeps y (record m { closing = m.present }) t
  keeps_close old = record {
    committed = old.committed;
    closing = old.present;
    present = old.present;
    present_is = old.present_is;
    order = rises_trans m.committed m.closing m.present old.order old.order_present;
    order_present = rises_self m.present;
    apart = record { itself = old.apart.itself; committed = old.apart.committed; closing = old.apart.present; present = old.apart.present };
    uncut = old.uncut;
    marked = old.marked;
  }

  -- the barrier after its head sector has passed
  pub keeps_commit : Keeps y m t → Keeps y (record m { committed = m.closing }) t
  keeps_commit old = record {
    committed = old.closing;
    closing = old.closing;
    present = old.present;
    present_is = old.present_is;
    order = rises_self m.closing;
    order_present = old.order_present;
    apart = record { itself = old.apart.itself; committed = old.apart.closing; closing = old.apart.closing; present = old.apart.present };
    uncut = old.uncut;
    marked = old.marked;
  }

  is_stable_now : Keeps y m t → (o : ℕ) → o < y.size y.ends → m.marks (part_of o) ≡ Stable → (v : ℕ) → Reads t (m.placed (part_of o)) (within o) v → v ≡ y.byte o y.ends
  is_stable_now keeps o lt on v r =
      let P : Mark → Type 0 = λ x. IsMarked x t (m.placed (part_of o)) (within o) (y.byte o y.ends) in
      let exact : P Stable = subst P on (keeps.marked o lt) in
      exact v r

-- Settle, where each part is on the device as it is, or was settled before in its sector. It changes no byte; what is on the device as
-- it is counts from now on, and so may the others from where they did.
pub keeps_settle : (y z : Story) (m : Memory) (t : Tape) (since : ℕ → ℕ) → IsQuiet y z → FixesNone y z →
    ((o : ℕ) → since o ≤ z.ends) → ((o : ℕ) → m.present.since o ≤ since o) →
    ((o : ℕ) → o < y.size y.ends → ((o < m.present.place.size) × (m.placed (part_of o) ≡ m.present.place.sectors (part_of o)) × (since o ≡ m.present.since o)) ⊎ (m.marks (part_of o) ≡ Stable)) →
    Keeps y m t → Keeps z (record m { present = record { k = z.ends; place = record { sectors = m.placed; size = y.size y.ends }; since = since; size_since = z.ends } }) t
keeps_settle y z m t since quiet none low later each old =
    let e : z.ends ≡ y.ends + 1 = quiet.follows.ends in
    let m2 : Memory = after_event z m m.placed m.marks in
    let grown : Keeps z m2 t = keeps_quiet y z m t quiet (ready_none y z m.committed.since m.committed.size_since none) (ready_none y z m.closing.since m.closing.size_since none) (ready_none y z m.present.since m.present.size_since none) old in
    let s2 : Standing = record { k = z.ends; place = record { sectors = m.placed; size = y.size y.ends }; since = since; size_since = z.ends } in
    let size : SizeMay z.ends (size_course z) z.ends (y.size y.ends) = subst (λ (n : ℕ). SizeMay z.ends (size_course z) z.ends n) quiet.same_size (size_now z z.ends z.ends (omega arith) (joined_self (size_course z) z.ends)) in
    record {
      committed = grown.committed;
      closing = grown.closing;
      present = shown_renewed z m2.present s2 t refl size (omega arith) low
          (λ o lt. elim (each o lt) [
            | inl kept ↦ inl kept
            | inr on ↦ inr (joined_self (byte_course z o) z.ends, λ v r. is_stable_now y m t old o lt on v r ∙ sym (quiet.same_byte o))
          ]) grown.present;
      present_is = refl;
      order = old.order;
      order_present = record { k = omega (arith, old.closing.inside, e); since = λ o. omega (arith, old.order_present.since o, later o); size_since = omega (arith, old.closing.size_recent, e) };
      apart = record { itself = old.apart.itself; committed = old.apart.committed; closing = old.apart.closing; present = old.apart.itself };
      uncut = grown.uncut;
      marked = grown.marked;
    }

-- a smaller truncate: its pages past the end go, and what it leaves settled is shown
pub keeps_cut : (y z : Story) (m : Memory) (t : Tape) (n : ℕ) (placed : ℕ → Option ℕ) (s : Standing) → Follows y z → FixesNone y z → n < y.size y.ends → z.size z.ends ≡ n → ((o : ℕ) → o < n → z.byte o z.ends ≡ y.byte o y.ends) →
    ((o : ℕ) → o < n → placed (part_of o) ≡ m.placed (part_of o)) → ((p u : ℕ) → placed p ≡ Some u → m.placed p ≡ Some u) → ((p u : ℕ) → s.place.sectors p ≡ Some u → m.present.place.sectors p ≡ Some u) →
    s.k ≡ z.ends → ((o : ℕ) → m.present.since o ≤ s.since o) → m.present.size_since ≤ s.size_since → Shown z s t → Keeps y m t →
    Keeps z (record m { present = s; placed = placed; last_cut = z.ends }) t
keeps_cut y z m t n placed s follows none less size_is bytes same fewer fewer_settled k_is later later_size shown old =
    let e : z.ends ≡ y.ends + 1 = follows.ends in
    record {
      committed = shown_event y z follows m.committed t (ready_none y z m.committed.since m.committed.size_since none) old.committed;
      closing = shown_event y z follows m.closing t (ready_none y z m.closing.since m.closing.size_since none) old.closing;
      present = shown;
      present_is = k_is;
      order = old.order;
      order_present = record { k = omega (arith, old.closing.inside, k_is, e); since = λ o. omega (arith, later o, old.order_present.since o); size_since = omega (arith, later_size, old.order_present.size_since) };
      apart = record {
        itself = λ p q b x w. old.apart.itself p q b (fewer p b x) (fewer q b w);
        committed = λ p q b x w. old.apart.committed p q b (fewer p b x) w;
        closing = λ p q b x w. old.apart.closing p q b (fewer p b x) w;
        present = λ p q b x w. old.apart.present p q b (fewer p b x) (fewer_settled q b w);
      };
      uncut = λ o i from to. absurd (omega (arith, from, to));
      marked = λ o lt.
          let below : o < n = subst (λ (x : ℕ). o < x) size_is lt in
          subst (λ (x : ℕ). IsMarked (m.marks (part_of o)) t (placed (part_of o)) (within o) x) (sym (bytes o below)) (subst (λ (b : Option ℕ). IsMarked (m.marks (part_of o)) t b (within o) (y.byte o y.ends)) (sym (same o below)) (old.marked o (omega (arith, below, less))));
    }

-- the inode is made, or its file leaves the tree
pub keeps_emptied : (y z : Story) (m : Memory) (t : Tape) (marks : ℕ → Mark) → Follows y z → FixesNone y z → z.size z.ends ≡ 0 → Keeps y m t →
    Keeps z (record m { present = record { k = z.ends; place = record { sectors = λ p. None; size = 0 }; since = m.present.since; size_since = m.present.size_since }; placed = λ p. None; marks = marks; last_cut = z.ends }) t
keeps_emptied y z m t marks follows none size_is old =
    let e : z.ends ≡ y.ends + 1 = follows.ends in
    record {
      committed = shown_event y z follows m.committed t (ready_none y z m.committed.since m.committed.size_since none) old.committed;
      closing = shown_event y z follows m.closing t (ready_none y z m.closing.since m.closing.size_since none) old.closing;
      present = record {
        inside = omega arith;
        recent = λ o. omega (arith, old.present.recent o, e);
        size_recent = omega (arith, old.present.size_recent, e);
        size = subst (λ (n : ℕ). SizeMay m.present.size_since (size_course z) z.ends n) size_is (size_now z m.present.size_since z.ends (omega (arith, old.present.size_recent, e)) (joined_self (size_course z) z.ends));
        bytes = λ o v lt r. absurd (omega (arith, lt));
      };
      present_is = refl;
      order = old.order;
      order_present = record { k = omega (arith, old.closing.inside, e); since = old.order_present.since; size_since = old.order_present.size_since };
      apart = record { itself = λ p q b x w. absurd (none_some b x); committed = λ p q b x w. absurd (none_some b x); closing = λ p q b x w. absurd (none_some b x); present = λ p q b x w. absurd (none_some b x) };
      uncut = λ o i from to. absurd (omega (arith, from, to));
      marked = λ o lt. absurd (omega (arith, lt, size_is));
    }
  where
    none_some : (b : ℕ) → ◌≡◌ {A = Option ℕ} None (Some b) → ⊥
    none_some b x = cc

-- The unmounting: every part is on the device as it is, the device says the present pages and size, and the one prefix that is left is
-- all of it. What it makes stable stands in all three states, since they begin anew behind it.
pub keeps_unmounted : (y z : Story) (m : Memory) (t : Tape) → IsQuiet y z → m.present.place ≡ record { sectors = m.placed; size = y.size y.ends } → ((o : ℕ) → o < y.size y.ends → m.marks (part_of o) ≡ Stable) → Keeps y m t →
    Keeps z (record m { committed = record { k = z.ends; place = m.present.place; since = λ o. z.ends; size_since = z.ends }; closing = record { k = z.ends; place = m.present.place; since = λ o. z.ends; size_since = z.ends }; present = record { k = z.ends; place = m.present.place; since = λ o. z.ends; size_since = z.ends } }) t
keeps_unmounted y z m t quiet settled each old =
    let s : Standing = record { k = z.ends; place = record { sectors = m.placed; size = y.size y.ends }; since = λ o. z.ends; size_since = z.ends } in
    let shown : Shown z s t = record {
      inside = omega arith;
      recent = λ o. omega arith;
      size_recent = omega arith;
      size = subst (λ (n : ℕ). SizeMay z.ends (size_course z) z.ends n) quiet.same_size (size_now z z.ends z.ends (omega arith) (joined_self (size_course z) z.ends));
      bytes = λ o v lt r. subst (λ (x : ℕ). May z.ends (byte_course z o) z.ends x) (sym (is_stable_now y m t old o lt (each o lt) v r ∙ sym (quiet.same_byte o))) (byte_now z o z.ends z.ends (omega arith) (joined_self (byte_course z o) z.ends));
    } in
    let rise : Rises s s = rises_self s in
    let here : Keeps z (record m { committed = s; closing = s; present = s }) t = record {
      committed = shown;
      closing = shown;
      present = shown;
      present_is = refl;
      order = rise;
      order_present = rise;
      apart = record { itself = old.apart.itself; committed = old.apart.itself; closing = old.apart.itself; present = old.apart.itself };
      uncut = uncut_next y z m t quiet.follows old quiet.unremoved;
      marked = λ o lt.
          let below : o < y.size y.ends = subst (λ (n : ℕ). o < n) quiet.same_size lt in
          subst (λ (v : ℕ). IsMarked (m.marks (part_of o)) t (m.placed (part_of o)) (within o) v) (sym (quiet.same_byte o)) (old.marked o below);
    } in
    subst (λ (place : OnDevice). Keeps z (record m { committed = record { k = z.ends; place = place; since = λ o. z.ends; size_since = z.ends }; closing = record { k = z.ends; place = place; since = λ o. z.ends; size_since = z.ends }; present = record { k = z.ends; place = place; since = λ o. z.ends; size_since = z.ends } }) t) (sym settled) here

-- where every part is on the device as it is, and settled, the present state counts from now: what a flush with nothing to do gives
pub keeps_renewed : (y : Story) (m : Memory) (t : Tape) → m.present.place ≡ record { sectors = m.placed; size = y.size y.ends } → ((o : ℕ) → o < y.size y.ends → m.marks (part_of o) ≡ Stable) → Keeps y m t →
    Keeps y (record m { present = record { k = m.present.k; place = m.present.place; since = λ o. y.ends; size_since = y.ends } }) t
keeps_renewed y m t settled each old =
    let s : Standing = record { k = y.ends; place = record { sectors = m.placed; size = y.size y.ends }; since = λ o. y.ends; size_since = y.ends } in
    let shown : Shown y s t = record {
      inside = omega arith;
      recent = λ o. omega arith;
      size_recent = omega arith;
      size = size_now y y.ends y.ends (omega arith) (joined_self (size_course y) y.ends);
      bytes = λ o v lt r. subst (λ (x : ℕ). May y.ends (byte_course y o) y.ends x) (sym (is_stable_now y m t old o lt (each o lt) v r)) (byte_now y o y.ends y.ends (omega arith) (joined_self (byte_course y o) y.ends));
    } in
    let moved : Shown y (record { k = m.present.k; place = m.present.place; since = λ o. y.ends; size_since = y.ends }) t = subst (λ (place : OnDevice). Shown y (record { k = m.present.k; place = place; since = λ o. y.ends; size_since = y.ends }) t) (sym settled) (subst (λ (k : ℕ). Shown y (record s { k = k }) t) (sym old.present_is) shown) in
    record {
      committed = old.committed;
      closing = old.closing;
      present = moved;
      present_is = old.present_is;
      order = old.order;
      order_present = record { k = old.order_present.k; since = λ o. old.closing.recent o; size_since = old.closing.size_recent };
      apart = record { itself = old.apart.itself; committed = old.apart.committed; closing = old.apart.closing; present = old.apart.present };
      uncut = old.uncut;
      marked = old.marked;
    }
