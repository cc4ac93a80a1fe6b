-- What each kind of turn does to what is shown of one state.
use Rattle.std.proofs.Common.{◌≡◌, ◌⊎◌, ◌+◌, ◌≤◌, ◌<◌, min, ℕ, true, false, List, get_or, sym, ◌∙◌, ap, subst, inl, inr, arith}
use Rattle.std.specs.Prelude.{Option, Some, None}
use Rattle.vx_dev.specs.declared.device.Operation.{Operation}
use Rattle.vx_dev.specs.declared.device.Operation.TheVariants.{Barrier}
use Rattle.vx_dev.specs.Laws.{TapeLaws}
use Rattle.vx_dev.specs.Tape.{Tape, did, Writes}
use Rattle.vx_bytes.specs.Course.{Joined, May, SizeMay, Grows}
use Rattle.vx_bytes.specs.Course.SizeMay.{had}
use Rattle.vx_bytes.specs.Stories.{Story, size_course, byte_course, Follows, IsReady, FixesNone}
use Rattle.vx_bytes.specs.Standings.{Standing, Reads, Shown, part_of, within}
use Rattle.vx_bytes.proofs.Courses.{joined_next, may_joined, may_now, may_grows, size_may_grows, size_may_joined, size_may_cut}

-- what a part may be read as after an operation
pub reads_put : (t : Tape) (op : Operation) (u : ℕ) (bytes : List ℕ) (place : Option ℕ) (i v : ℕ) → Writes op u bytes → Reads (did op t) place i v → Reads t place i v ⊎ ((place ≡ Some u) × (get_or bytes i 0 ≡ v))
reads_put t op u bytes None i v w r = inl r
reads_put t op u bytes (Some b) i v w (x, may, is) = elim (w.may t b x may) [
  | inl before ↦ inl (x, before, is)
  | inr here ↦ inr (ap (λ (n : ℕ). Some n) here.0, ap (λ (l : List ℕ). get_or l i 0) (sym here.1) ∙ is)
]

pub reads_barrier : TapeLaws → (t : Tape) (place : Option ℕ) (i v : ℕ) → Reads (did Barrier t) place i v → Reads t place i v
reads_barrier laws t None i v r = r
reads_barrier laws t (Some b) i v (x, may, is) = (x, laws.barrier_adds t b x may, is)

pub ready_none : (y z : Story) (since : ℕ → ℕ) (size_since : ℕ) → FixesNone y z → IsReady y z since size_since
ready_none y z since size_since none = record { size = λ i lt on. inl (none.size i lt on); bytes = λ o i lt on. inl (none.bytes o i lt on) }

module _ (y z : Story) (follows : Follows y z) where
  pub size_grows : (since : ℕ → ℕ) (size_since : ℕ) → IsReady y z since size_since → Grows size_since (size_course y) (size_course z)
  size_grows since size_since ready = record { ends = follows.ends; value = follows.size; cuts = follows.shrinks; stable = ready.size }

  pub byte_grows : (since : ℕ → ℕ) (size_since : ℕ) → IsReady y z since size_since → (o : ℕ) → Grows (since o) (byte_course y o) (byte_course z o)
  byte_grows since size_since ready o = record { ends = follows.ends; value = follows.byte o; cuts = follows.removes o; stable = ready.bytes o }

  -- any event, where what it makes stable is on the device
  pub shown_event : (s : Standing) (t : Tape) → IsReady y z s.since s.size_since → Shown y s t → Shown z s t
  shown_event s t ready old = record {
    inside = omega (arith, old.inside, follows.ends);
    recent = λ o. omega (arith, old.recent o, follows.ends);
    size_recent = omega (arith, old.size_recent, follows.ends);
    size = size_may_grows s.size_since (size_course y) (size_course z) (size_grows s.since s.size_since ready) s.k s.place.size old.inside old.size;
    bytes = λ o v lt r. may_grows (s.since o) (byte_course y o) (byte_course z o) (byte_grows s.since s.size_since ready o) s.k v old.inside (old.bytes o v lt r);
  }

module _ (y : Story) (s : Standing) (t : Tape) where
  -- a write, where it is in a sector of this state what the bytes are that it writes
  pub shown_put : (op : Operation) (u : ℕ) (bytes : List ℕ) → Writes op u bytes → ((o : ℕ) → o < s.place.size → s.place.sectors (part_of o) ≡ Some u → May (s.since o) (byte_course y o) s.k (get_or bytes (within o) 0)) → Shown y s t → Shown y s (did op t)
  shown_put op u bytes w here old = record {
    inside = old.inside;
    recent = old.recent;
    size_recent = old.size_recent;
    size = old.size;
    bytes = λ o v lt r. elim (reads_put t op u bytes (s.place.sectors (part_of o)) (within o) v w r) [
      | inl before ↦ old.bytes o v lt before
      | inr is ↦ subst (λ (x : ℕ). May (s.since o) (byte_course y o) s.k x) is.1 (here o lt is.0)
    ];
  }

  pub shown_barrier : TapeLaws → Shown y s t → Shown y s (did Barrier t)
  shown_barrier laws old = record { inside = old.inside; recent = old.recent; size_recent = old.size_recent; size = old.size; bytes = λ o v lt r. old.bytes o v lt (reads_barrier laws t (s.place.sectors (part_of o)) (within o) v r) }

-- what stands now is a candidate of each prefix since which nothing was removed
pub byte_now : (y : Story) (o f k : ℕ) → f ≤ y.ends → Joined (byte_course y o) y.ends k → May f (byte_course y o) k (y.byte o y.ends)
byte_now y o f k low j = may_now f (byte_course y o) k low j

pub size_now : (y : Story) (f k : ℕ) → f ≤ y.ends → Joined (size_course y) y.ends k → SizeMay f (size_course y) k (y.size y.ends)
size_now y f k low j = had (may_now f (size_course y) k low j)

-- the same place at the next prefix, where the event cuts nothing and the place is the same
pub shown_later : (y : Story) (s : Standing) (t : Tape) (k : ℕ) → s.k ≤ k → k ≤ y.ends → Joined (size_course y) s.k k → ((o : ℕ) → o < s.place.size → Joined (byte_course y o) s.k k) → Shown y s t → Shown y (record s { k = k }) t
shown_later y s t k le inside joined each old = record {
  inside = inside;
  recent = old.recent;
  size_recent = old.size_recent;
  size = size_may_joined k le joined old.size;
  bytes = λ o v lt r. may_joined k (each o lt) (old.bytes o v lt r);
}

-- Another place of the file at the same prefix: each byte of it stands where it stood, or is on the device as it is now and was not
-- removed since. Settle is of this kind.
pub shown_renewed : (y : Story) (s s2 : Standing) (t : Tape) → s2.k ≡ s.k → SizeMay s2.size_since (size_course y) s2.k s2.place.size → s2.size_since ≤ y.ends → ((o : ℕ) → s2.since o ≤ y.ends) →
    ((o : ℕ) → o < s2.place.size →
    ((o < s.place.size) × (s2.place.sectors (part_of o) ≡ s.place.sectors (part_of o)) × (s2.since o ≡ s.since o))
    ⊎ (Joined (byte_course y o) y.ends s.k × ((v : ℕ) → Reads t (s2.place.sectors (part_of o)) (within o) v → v ≡ y.byte o y.ends))) →
    Shown y s t → Shown y s2 t
shown_renewed y s s2 t same_k size size_low low each old = record {
  inside = subst (λ (k : ℕ). k ≤ y.ends) (sym same_k) old.inside;
  recent = low;
  size_recent = size_low;
  size = size;
  bytes = λ o v lt r. subst (λ (k : ℕ). May (s2.since o) (byte_course y o) k v) (sym same_k) (elim (each o lt) [
    | inl kept ↦ subst (λ (f : ℕ). May f (byte_course y o) s.k v) (sym kept.2) (old.bytes o v kept.0 (subst (λ (place : Option ℕ). Reads t place (within o) v) kept.1 r))
    | inr exact ↦ subst (λ (x : ℕ). May (s2.since o) (byte_course y o) s.k x) (sym (exact.1 v r)) (byte_now y o (s2.since o) s.k (low o) exact.0)
  ]);
}

-- A smaller truncate to n: the size on the device becomes n where it was above, and stays where it was below. What is below it stands where it stood.
module _ (y z : Story) (follows : Follows y z) (s : Standing) (t : Tape) (n : ℕ) (sectors : ℕ → Option ℕ) (ready : IsReady y z s.since s.size_since) (is_now : s.k ≡ y.ends)
    (cuts : z.shrinks y.ends ≡ true) (loose : z.fixes_size y.ends ≡ false) (size_is : z.size (y.ends + 1) ≡ n) (kept : (o : ℕ) → o < n → z.removes o y.ends ≡ false)
    (same : (o : ℕ) → o < min n s.place.size → sectors (part_of o) ≡ s.place.sectors (part_of o)) (old : Shown y s t) where
  pub shown_cut : Shown z (record s { k = y.ends + 1; place = record { sectors = sectors; size = min n s.place.size } }) t
  shown_cut =
      let grown : Shown z s t = shown_event y z follows s t ready old in
      let before : SizeMay s.size_since (size_course z) y.ends s.place.size = subst (λ (k : ℕ). SizeMay s.size_since (size_course z) k s.place.size) is_now grown.size in
      record {
        inside = omega (arith, follows.ends);
        recent = grown.recent;
        size_recent = grown.size_recent;
        size = subst (λ (x : ℕ). SizeMay s.size_since (size_course z) (y.ends + 1) (min x s.place.size)) size_is (size_may_cut s.size_since (size_course z) y.ends s.place.size old.size_recent follows.ends cuts loose before);
        bytes = λ o v lt r.
            let joined : Joined (byte_course z o) s.k (y.ends + 1) = subst (λ (k : ℕ). Joined (byte_course z o) k (y.ends + 1)) (sym is_now) (joined_next (byte_course z o) y.ends (kept o (omega (arith, lt)))) in
            may_joined (y.ends + 1) joined (grown.bytes o v (omega (arith, lt)) (subst (λ (p : Option ℕ). Reads t p (within o) v) (same o lt) r));
      }
