-- A batch's log sectors are written, its records join the log, and the tail moves.
use Rattle.std.proofs.Common.{◌≡◌, ◌≢◌, ◌⊎◌, ◌+◌, ◌-◌, ◌%◌, ◌/◌, ◌≤◌, ◌<◌, ℕ, Bool, List, [], ◌∷◌, ◌++◌, length, get_or, refl, sym, ◌∙◌, ap, subst, inl, inr, ⊎_elim, arith, length-append, append_assoc}
use Rattle.std.proofs.Math.Nat.{mul-le-mul_left}
use Rattle.std.proofs.lemmas.Bool.{cases_lt}
use Rattle.std.proofs.lemmas.List.{get_or_append_left, get_or-append_right, get_or-append-add}
use Rattle.std.proofs.lemmas.Nat.{div-add-mod'}
use Rattle.vx_dev.specs.declared.device.Operation.TheVariants.{Put, Barrier}
use Rattle.vx_dev.specs.declared.device.Operation.{Operation}
use Rattle.vx_dev.specs.Tape.{Writes, Tape, did, MayHold, Settles}
use Rattle.vx_dev.specs.Laws.{TapeLaws}
use Rattle.vx_layout.specs.LogForms.{AfterImage, LogState, log_at, record_sectors, log_sectors, overlay, overlay_all, live}
use Rattle.vx_log.specs.Crashes.{IsApart, Holds, IsFree, grown, Covers, trimmed, emptied, IsPut, IsCertainBody, IsHome, IsHomeBut}
use Rattle.vx_log.proofs.Bodies.{length-record}

pub overlay_all-append : (rs qs : List (List AfterImage)) (s : ℕ) (x : List ℕ) → overlay_all (rs ++ qs) s x ≡ overlay_all qs s (overlay_all rs s x)
overlay_all-append [] qs s x = refl
overlay_all-append (r ∷ rs) qs s x = overlay_all-append rs qs s (overlay r s x)

-- the length of records in the log doesn't hang on where they begin
pub length-log_sectors : (p q : ℕ) (rs : List (List AfterImage)) → length (log_sectors p rs) ≡ length (log_sectors q rs)
length-log_sectors p q [] = refl
length-log_sectors p q (r ∷ rs) =
    omega (
      arith,
      length-log_sectors (p + (1 + length r)) (q + (1 + length r)) rs,
      length-append (record_sectors p r) (log_sectors (p + (1 + length r)) rs),
      length-append (record_sectors q r) (log_sectors (q + (1 + length r)) rs),
      length-record p r,
      length-record q r,
    )

pub log_sectors-append : (p : ℕ) (rs qs : List (List AfterImage)) (end : ℕ) → end ≡ p + length (log_sectors p rs) → log_sectors p (rs ++ qs) ≡ log_sectors p rs ++ log_sectors end qs
log_sectors-append p [] qs end is =
    let same : p ≡ end = omega (arith, is) in
    ap (λ (q : ℕ). log_sectors q qs) same
log_sectors-append p (r ∷ rs) qs end is =
    let next : ℕ = p + (1 + length r) in
    let ends : end ≡ next + length (log_sectors next rs) = omega (arith, is, length-append (record_sectors p r) (log_sectors next rs), length-record p r) in
    ap (λ (l : List (List ℕ)). record_sectors p r ++ l) (log_sectors-append next rs qs end ends) ∙ sym (append_assoc (record_sectors p r) (log_sectors next rs) (log_sectors end qs))

-- two positions of the log fall together only a whole log apart
apart : (n p q : ℕ) → 0 < n → p < q → q < p + n → p % n ≢ q % n
apart n p q some lt near same =
    elim (cases_lt (p / n) (q / n)) [
      | inl less ↦ omega (arith, mul-le-mul_left n less, div-add-mod' p n, div-add-mod' q n)
      | inr more ↦ omega (arith, mul-le-mul_left n more, div-add-mod' p n, div-add-mod' q n)
    ]

apart_either : (n p q : ℕ) → 0 < n → p ≢ q → q < p + n → p < q + n → p % n ≢ q % n
apart_either n p q some other near near2 = elim (cases_lt p q) [
  | inl less ↦ apart n p q some less near
  | inr more ↦ λ same. apart n q p some (omega (arith, other, more)) near2 (sym same)
]

module _ (tape : TapeLaws) (n : ℕ) where
  pub holds_grown : (r : LogState) (records : List (List AfterImage)) (is_metadata : ℕ → Bool) (t : Tape) → IsApart n is_metadata → Covers r records is_metadata
      → r.head + length (log_sectors r.head records) ≤ r.tail + n → IsCertainBody n r.head (log_sectors r.head records) t → Holds n r t → Holds n (grown r records is_metadata) t
  holds_grown r records is_metadata t apart covers fits body h =
      let new : List (List ℕ) = log_sectors r.head records in
      let sectors : live (grown r records is_metadata) ≡ live r ++ new = log_sectors-append r.tail r.records records r.head h.ends in
      let sizes : length (live (grown r records is_metadata)) ≡ length (live r) + length new = ap length sectors ∙ length-append (live r) new in
      record {
        apart = apart;
        ends = omega (arith, h.ends, sizes);
        fits = fits;
        whole = λ i x lt may. elim (cases_lt i (length (live r))) [
          | inl old ↦ h.whole i x old may ∙ sym (ap (λ (l : List (List ℕ)). get_or l i []) sectors ∙ get_or_append_left (live r) new [] i old)
          | inr later ↦
              let j : ℕ = i - length (live r) in
              let place : r.tail + i ≡ r.head + j = omega (arith, later, h.ends) in
              let short : j < length new = omega (arith, lt, sizes, later) in
              let P : ℕ → Type 0 = λ p. MayHold t (log_at n p) x in
              body j x short (subst P place may)
              ∙ sym (ap (λ (l : List (List ℕ)). get_or l i []) sectors ∙ get_or-append_right (live r) new (length (live r)) i [] refl later)
        ];
        metadata = λ s x is_meta may. overlay_all-append r.records records s x ∙ elim (covers s is_meta) [
          | inl was ↦ ap (λ (y : List ℕ). overlay_all records s y) (h.metadata s x was may)
          | inr named ↦ named (overlay_all r.records s x) (r.contents s)
        ];
      }

  pub holds_emptied : (r : LogState) (t : Tape) → IsHome r t → Holds n r t → Holds n (emptied r) t
  holds_emptied r t home h = record {
    apart = h.apart;
    ends = omega arith;
    fits = omega arith;
    whole = λ i x lt may. absurd (omega (arith, lt));
    metadata = λ s x meta may. home s x meta may;
  }

  -- the tail moves past the first records
  pub holds_trimmed : (r : LogState) (front rest : List (List AfterImage)) (tail : ℕ) (t : Tape) → r.records ≡ front ++ rest → tail ≡ r.tail + length (log_sectors r.tail front) → IsHomeBut r rest t → Holds n r t → Holds n (trimmed r tail rest) t
  holds_trimmed r front rest tail t split at home h =
      let old : List (List ℕ) = log_sectors r.tail front in
      let new : List (List ℕ) = log_sectors tail rest in
      let sectors : live r ≡ old ++ new = ap (log_sectors r.tail) split ∙ log_sectors-append r.tail front rest tail at in
      let sizes : length (live r) ≡ length old + length new = ap length sectors ∙ length-append old new in
      record {
        apart = h.apart;
        ends = omega (arith, h.ends, sizes, at);
        fits = omega (arith, h.fits, at);
        whole = λ i x lt may.
            let place : tail + i ≡ r.tail + (length old + i) = omega (arith, at) in
            let P : ℕ → Type 0 = λ p. MayHold t (log_at n p) x in
            h.whole (length old + i) x (omega (arith, lt, sizes)) (subst P place may)
            ∙ ap (λ (l : List (List ℕ)). get_or l (length old + i) []) sectors ∙ get_or-append-add old new i [];
        metadata = λ s x meta may. home s x meta may;
      }

  outside_log : 0 < n → (p u : ℕ) → (u < 4) ⊎ (4 + n ≤ u) → log_at n p ≢ u
  outside_log some p u (inl low) same = omega (arith, low, same)
  outside_log some p u (inr high) same = omega (arith, high, same, some)

  -- one sector more of a body
  pub put_more : 0 < n → (at : ℕ) (body : List (List ℕ)) (k : ℕ) (t : Tape) → k < n → IsPut n at body k t → IsPut n at body (k + 1) (did (Put (log_at n (at + k)) (get_or body k [])) t)
  put_more some at body k t room put i lt = elim (cases_lt i k) [
    | inl old ↦
        let other : log_at n (at + i) ≢ log_at n (at + k) = λ same. apart n (at + i) (at + k) some (omega (arith, old)) (omega (arith, room)) (omega (arith, same)) in
        tape.put_elsewhere t (log_at n (at + k)) (log_at n (at + i)) (get_or body k []) (get_or body i []) other (put i old)
    | inr new ↦
        let same : k ≡ i = omega (arith, lt, new) in
        let P : ℕ → Type 0 = λ j. Settles (did (Put (log_at n (at + k)) (get_or body k [])) t) (log_at n (at + j)) (get_or body j []) in
        subst P same (tape.put_settles t (log_at n (at + k)) (get_or body k []))
  ]

  -- a sector at or after those that are written is none of them
  pub put_stays : 0 < n → (at : ℕ) (body : List (List ℕ)) (k j : ℕ) (t : Tape) (op : Operation) (bytes : List ℕ) → Writes op (log_at n (at + j)) bytes → k ≤ j → j < n → IsPut n at body k t → IsPut n at body k (did op t)
  put_stays some at body k j t op bytes w le room put i lt =
      let other : log_at n (at + i) ≢ log_at n (at + j) = λ same. apart n (at + i) (at + j) some (omega (arith, lt, le)) (omega (arith, room)) (omega (arith, same)) in
      w.other t (log_at n (at + i)) (get_or body i []) other (put i lt)

  -- so is a sector outside the log
  pub put_apart : 0 < n → (at : ℕ) (body : List (List ℕ)) (k : ℕ) (t : Tape) (op : Operation) (u : ℕ) (bytes : List ℕ) → Writes op u bytes → (u < 4) ⊎ (4 + n ≤ u) → IsPut n at body k t → IsPut n at body k (did op t)
  put_apart some at body k t op u bytes w outside put i lt = w.other t (log_at n (at + i)) (get_or body i []) (outside_log some (at + i) u outside) (put i lt)

  pub put_barrier : (at : ℕ) (body : List (List ℕ)) (k : ℕ) (t : Tape) → IsPut n at body k t → IsPut n at body k (did Barrier t)
  put_barrier at body k t put i lt = tape.barrier_settles t (log_at n (at + i)) (get_or body i []) (put i lt)

  pub certain_apart : 0 < n → (at : ℕ) (body : List (List ℕ)) (t : Tape) (op : Operation) (u : ℕ) (bytes : List ℕ) → Writes op u bytes → (u < 4) ⊎ (4 + n ≤ u) → IsCertainBody n at body t → IsCertainBody n at body (did op t)
  certain_apart some at body t op u bytes w outside certain i x lt may = elim (w.may t (log_at n (at + i)) x may) [
    | inl before ↦ certain i x lt before
    | inr here ↦ absurd (outside_log some (at + i) u outside here.0)
  ]

  pub certain_barrier : (at : ℕ) (body : List (List ℕ)) (t : Tape) → IsCertainBody n at body t → IsCertainBody n at body (did Barrier t)
  certain_barrier at body t certain i x lt may = certain i x lt (tape.barrier_adds t (log_at n (at + i)) x may)

  pub certain_body : (at : ℕ) (body : List (List ℕ)) (t : Tape) → IsPut n at body (length body) t → IsCertainBody n at body (did Barrier t)
  certain_body at body t put i x lt may = put i lt x may

  -- the places of a body are free
  pub body_free : 0 < n → (r : LogState) (t : Tape) → Holds n r t → (k : ℕ) → r.head + k < r.tail + n → IsFree n r (log_at n (r.head + k))
  body_free some r t h k room = record {
    no_record = λ i lt e. apart_either n (r.head + k) (r.tail + i) some (λ same. absurd (omega (arith, same, lt, h.ends))) (omega (arith, lt, h.ends, room)) (omega (arith, lt, h.ends, room)) (omega (arith, e));
    decided = λ meta. absurd (⊎_elim (λ zero. omega (arith, zero)) (λ high. omega (arith, high, some)) (h.apart (log_at n (r.head + k)) meta));
  }
