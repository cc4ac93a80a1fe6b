-- Beginning, opening and closing a call keep the rule.
use Rattle.std.proofs.Common.{◌≡◌, ◌≢◌, ℕ, ◌+◌, ◌%◌, ◌<◌, ◌≤◌, List, [], ◌∷◌, ◌++◌, length, set, refl, sym, ap, ◌∙◌, subst, arith, length-append}
use Rattle.std.specs.Prelude.{slice_index}
use mathlib.Core.Logic.{dite}
use mathlib.Core.List.{IsPrefix}
use native.Mathlib.Decide.{ℕ_discrete}
use Rattle.atomic_table.specs.Table.{State, step, keeps, Allows}
use Rattle.vx_front.specs.declared.views.Entry.{Entry}
use Rattle.vx_front.specs.declared.views.View.{View}
use Rattle.vx_front.specs.declared.views.View.TheVariants.{Kernel, Caller}
use Rattle.vx_front.specs.declared.views.KernelView.{KernelView}
use Rattle.vx_front.specs.declared.views.CallerView.{CallerView}
use Rattle.vx_front.specs.Views.{calls_by, known_of, told_of, with_entry, with_begun, with_answer}
use Rattle.vx_front.specs.Rule.{Counts, FitsCaller, IsCounted, Kept}
use Rattle.vx_front.specs.Steps.{is_begin, is_open, is_close}
use Rattle.vx_front.proofs.Entries.{calls-push, calls-push_other, calls_prefix, prefix_trans}
use Rattle.vx_front.proofs.Lists.{index_set, index_else, length_same, next_mod, put, put_here, put_else}
use Rattle.vx_front.proofs.Fitting.{Grows, ended_grown, DiffersAt, one_kernel}
use Rattle.vx_front.proofs.Moves.{no_value, state, kernel_kept, caller_kept}

abbrev pub next_word : List ℕ → ℕ → ℕ
next_word ws n = (slice_index ws n + 1) % 18446744073709551616

-- a call is begun

abbrev begun_at : Counts → ℕ → Counts
begun_at t n = record { seat_of = t.seat_of; begun = put t.begun n (t.begun n + 1); mine = t.mine }

begun_more : (t : Counts) (n m : ℕ) → t.begun m ≤ put t.begun n (t.begun n + 1) m
begun_more t n m = dite (ℕ_discrete m n)
    (λ (is : m ≡ n). subst (λ (x : ℕ). t.begun x ≤ put t.begun n (t.begun n + 1) x) (sym is) (subst (λ (y : ℕ). t.begun n ≤ y) (sym (put_here t.begun n (t.begun n + 1))) (omega arith)))
    (λ (apart : m ≢ n). subst (λ (y : ℕ). t.begun m ≤ y) (sym (put_else t.begun n (t.begun n + 1) m apart)) (omega arith))

begun_differs : (t : Counts) (n : ℕ) → DiffersAt n t (begun_at t n)
begun_differs t n = record { seats = λ m apart. refl; begun = λ m apart. put_else t.begun n (t.begun n + 1) m apart; mine = λ m apart. refl; more = begun_more t n }

begun_word : (ws : List ℕ) (k : KernelView) (t : Counts) (n : ℕ) → IsCounted ws k t → (m : ℕ) → 0 < m → m < length (set ws n (next_word ws n))
    → slice_index (set ws n (next_word ws n)) m ≡ (put t.begun n (t.begun n + 1) m + length (calls_by m k.log) + length (t.mine m)) % 18446744073709551616
begun_word ws k t n h m pos low =
    let room : m < length ws = (let z = length_same ws n (next_word ws n) in omega arith) in
    dite (ℕ_discrete m n)
    (λ (is : m ≡ n).
    let room_n : n < length ws = subst (λ (x : ℕ). x < length ws) is room in
    let total = t.begun n + length (calls_by n k.log) + length (t.mine n) in
    let w : slice_index ws n ≡ total % 18446744073709551616 = h.word n (subst (λ (x : ℕ). 0 < x) is pos) room_n in
    let sum : total + 1 ≡ t.begun n + 1 + length (calls_by n k.log) + length (t.mine n) = omega arith in
    subst (λ (x : ℕ). slice_index (set ws n (next_word ws n)) x ≡ (put t.begun n (t.begun n + 1) x + length (calls_by x k.log) + length (t.mine x)) % 18446744073709551616) (sym is)
    (index_set ws n (next_word ws n) room_n ∙ (next_mod total (slice_index ws n) w ∙ (ap (λ (x : ℕ). x % 18446744073709551616) sum ∙ ap (λ (b : ℕ). (b + length (calls_by n k.log) + length (t.mine n)) % 18446744073709551616) (sym (put_here t.begun n (t.begun n + 1)))))))
    (λ (apart : m ≢ n).
    index_else ws n m (next_word ws n) apart ∙ (h.word m pos room ∙ ap (λ (b : ℕ). (b + length (calls_by m k.log) + length (t.mine m)) % 18446744073709551616) (sym (put_else t.begun n (t.begun n + 1) m apart))))

begun_counted : (ws : List ℕ) (k : KernelView) (t : Counts) (n : ℕ) → 0 < n → n ≤ k.made → IsCounted ws k t → IsCounted (set ws n (next_word ws n)) k (begun_at t n)
begun_counted ws k t n pos made h = record {
  word = begun_word ws k t n h;
  none = put_else t.begun n (t.begun n + 1) 0 (λ (e : 0 ≡ n). absurd (omega arith)) ∙ h.none;
  above = λ m high. put_else t.begun n (t.begun n + 1) m (λ (e : m ≡ n). absurd (omega arith)) ∙ h.above m high;
  opened = λ m. (let a = h.opened m in let b = begun_more t n m in omega arith);
  mine = h.mine;
  known = λ m. (let a = h.known m in let b = begun_more t n m in omega arith);
  told = h.told;
  known_len = h.known_len;
  told_len = h.told_len;
}

pub begins : (slots id : ℕ) (c : CallerView) → Allows Kept slots id (Caller c, []) c.number (λ n. (n + 1) % 18446744073709551616) (is_begin (step slots c.number 1 0 no_value) (Caller c, []))
begins slots id c s h len at small =
    let mine : FitsCaller h.knows h.counts id c = h.each id (Caller c) at in
    let u = begun_at h.counts c.number in
    let ws = set s.words c.number (next_word s.words c.number) in
    let fits : FitsCaller h.knows u id (with_begun c) = record {
      front = mine.front;
      reads = mine.reads;
      past = mine.past;
      seen = mine.seen;
      note = mine.note;
      one = mine.one;
      made = mine.made;
      own = mine.own;
      begun = put_here h.counts.begun c.number (h.counts.begun c.number + 1) ∙ ap (λ (m : ℕ). m + 1) mine.begun;
      mine = mine.mine;
    } in
    let pos = mine.one in (
      Caller (with_begun c),
      keeps,
      tt,
      caller_kept s h ws s.homes id c (with_begun c) u at refl (begun_differs h.counts c.number) mine.own
          (let z = length_same s.words c.number (next_word s.words c.number) in let r = h.room in omega arith)
          (index_else s.words c.number 0 (next_word s.words c.number) (λ (e : 0 ≡ c.number). absurd (omega arith)) ∙ h.newest)
          (begun_counted s.words h.knows h.counts c.number mine.one mine.made h.counted)
          fits,
      (refl, refl),
    )

-- a call is closed

abbrev closed_at : Counts → ℕ → List Entry → Counts
closed_at t n es = record { seat_of = t.seat_of; begun = t.begun; mine = put t.mine n es }

closed_differs : (t : Counts) (n : ℕ) (es : List Entry) → DiffersAt n t (closed_at t n es)
closed_differs t n es = record { seats = λ m apart. refl; begun = λ m apart. refl; mine = λ m apart. put_else t.mine n es m apart; more = λ m. omega arith }

closed_word : (ws : List ℕ) (k : KernelView) (t : Counts) (n : ℕ) (e : Entry) → IsCounted ws k t → (m : ℕ) → 0 < m → m < length (set ws n (next_word ws n))
    → slice_index (set ws n (next_word ws n)) m ≡ (t.begun m + length (calls_by m k.log) + length (put t.mine n (t.mine n ++ e ∷ []) m)) % 18446744073709551616
closed_word ws k t n e h m pos low =
    let room : m < length ws = (let z = length_same ws n (next_word ws n) in omega arith) in
    let es = t.mine n ++ e ∷ [] in
    dite (ℕ_discrete m n)
    (λ (is : m ≡ n).
    let room_n : n < length ws = subst (λ (x : ℕ). x < length ws) is room in
    let total = t.begun n + length (calls_by n k.log) + length (t.mine n) in
    let w : slice_index ws n ≡ total % 18446744073709551616 = h.word n (subst (λ (x : ℕ). 0 < x) is pos) room_n in
    let sum : total + 1 ≡ t.begun n + length (calls_by n k.log) + length (t.mine n ++ e ∷ []) = omega (arith, length-append (t.mine n) (e ∷ [])) in
    subst (λ (x : ℕ). slice_index (set ws n (next_word ws n)) x ≡ (t.begun x + length (calls_by x k.log) + length (put t.mine n es x)) % 18446744073709551616) (sym is)
    (index_set ws n (next_word ws n) room_n ∙ (next_mod total (slice_index ws n) w ∙ (ap (λ (x : ℕ). x % 18446744073709551616) sum ∙ ap (λ (b : List Entry). (t.begun n + length (calls_by n k.log) + length b) % 18446744073709551616) (sym (put_here t.mine n es))))))
    (λ (apart : m ≢ n).
    index_else ws n m (next_word ws n) apart ∙ (h.word m pos room ∙ ap (λ (b : List Entry). (t.begun m + length (calls_by m k.log) + length b) % 18446744073709551616) (sym (put_else t.mine n es m apart))))

closed_mine : (k : KernelView) (t : Counts) (n : ℕ) (es : List Entry) → ((m : ℕ) → IsPrefix (t.mine m) (calls_by m k.log)) → IsPrefix es (calls_by n k.log) → (m : ℕ) → IsPrefix (put t.mine n es m) (calls_by m k.log)
closed_mine k t n es all one m = dite (ℕ_discrete m n)
    (λ (is : m ≡ n). subst (λ (x : ℕ). IsPrefix (put t.mine n es x) (calls_by x k.log)) (sym is) (subst (λ (l : List Entry). IsPrefix l (calls_by n k.log)) (sym (put_here t.mine n es)) one))
    (λ (apart : m ≢ n). subst (λ (l : List Entry). IsPrefix l (calls_by m k.log)) (sym (put_else t.mine n es m apart)) (all m))

closed_counted : (ws : List ℕ) (k : KernelView) (t : Counts) (n : ℕ) (e : Entry) → IsPrefix (t.mine n ++ e ∷ []) (calls_by n k.log) → IsCounted ws k t → IsCounted (set ws n (next_word ws n)) k (closed_at t n (t.mine n ++ e ∷ []))
closed_counted ws k t n e next h = record {
  word = closed_word ws k t n e h;
  none = h.none;
  above = h.above;
  opened = h.opened;
  mine = closed_mine k t n (t.mine n ++ e ∷ []) h.mine next;
  known = h.known;
  told = h.told;
  known_len = h.known_len;
  told_len = h.told_len;
}

-- only where what the caller has seen of its own calls begins with those that were answered and this one
pub closes : (slots id : ℕ) (c : CallerView) (e : Entry) → IsPrefix (c.mine ++ e ∷ []) (calls_by c.number c.seen)
    → Allows Kept slots id (Caller c, []) c.number (λ n. (n + 1) % 18446744073709551616) (is_close e (step slots c.number 1 0 no_value) (Caller c, []))
closes slots id c e next s h len at small =
    let mine : FitsCaller h.knows h.counts id c = h.each id (Caller c) at in
    let n = c.number in
    let es = h.counts.mine n ++ e ∷ [] in
    let u = closed_at h.counts n es in
    let ws = set s.words n (next_word s.words n) in
    let longer : IsPrefix (c.mine ++ e ∷ []) (calls_by n h.knows.log) = prefix_trans (c.mine ++ e ∷ []) (calls_by n c.seen) (calls_by n h.knows.log) next (calls_prefix n c.seen h.knows.log mine.seen) in
    let fits : FitsCaller h.knows u id (with_answer c e) = record {
      front = mine.front;
      reads = mine.reads;
      past = mine.past;
      seen = mine.seen;
      note = mine.note;
      one = mine.one;
      made = mine.made;
      own = mine.own;
      begun = mine.begun;
      mine = put_here h.counts.mine n es ∙ ap (λ (l : List Entry). l ++ e ∷ []) mine.mine;
    } in
    let pos = mine.one in (
      Caller (with_answer c e),
      keeps,
      tt,
      caller_kept s h ws s.homes id c (with_answer c e) u at refl (closed_differs h.counts n es) mine.own
          (let z = length_same s.words n (next_word s.words n) in let r = h.room in omega arith)
          (index_else s.words n 0 (next_word s.words n) (λ (z : 0 ≡ n). absurd (omega arith)) ∙ h.newest)
          (closed_counted s.words h.knows h.counts n e (subst (λ (l : List Entry). IsPrefix (l ++ e ∷ []) (calls_by n h.knows.log)) (sym mine.mine) longer) h.counted)
          fits,
      (refl, refl),
    )

-- a call is opened

log_longer : (n : ℕ) (log : List Entry) (e : Entry) (xs : List Entry) → IsPrefix xs (calls_by n log) → IsPrefix xs (calls_by n (log ++ e ∷ []))
log_longer n log e xs p = prefix_trans xs (calls_by n log) (calls_by n (log ++ e ∷ [])) p (calls_prefix n log (log ++ e ∷ []) (e ∷ [], refl))

opened_word : (ws : List ℕ) (k : KernelView) (t : Counts) (e : Entry) → IsCounted ws k t → (m : ℕ) → 0 < m → m < length (set ws e.caller (next_word ws e.caller))
    → slice_index (set ws e.caller (next_word ws e.caller)) m ≡ (t.begun m + length (calls_by m (k.log ++ e ∷ [])) + length (t.mine m)) % 18446744073709551616
opened_word ws k t e h m pos low =
    let n = e.caller in
    let room : m < length ws = (let z = length_same ws n (next_word ws n) in omega arith) in
    dite (ℕ_discrete m n)
    (λ (is : m ≡ n).
    let room_n : n < length ws = subst (λ (x : ℕ). x < length ws) is room in
    let total = t.begun n + length (calls_by n k.log) + length (t.mine n) in
    let w : slice_index ws n ≡ total % 18446744073709551616 = h.word n (subst (λ (x : ℕ). 0 < x) is pos) room_n in
    let long : length (calls_by n (k.log ++ e ∷ [])) ≡ length (calls_by n k.log) + 1 = ap length (calls-push n k.log e refl) ∙ length-append (calls_by n k.log) (e ∷ []) in
    let sum : total + 1 ≡ t.begun n + length (calls_by n (k.log ++ e ∷ [])) + length (t.mine n) = omega arith in
    subst (λ (x : ℕ). slice_index (set ws n (next_word ws n)) x ≡ (t.begun x + length (calls_by x (k.log ++ e ∷ [])) + length (t.mine x)) % 18446744073709551616) (sym is)
    (index_set ws n (next_word ws n) room_n ∙ (next_mod total (slice_index ws n) w ∙ ap (λ (x : ℕ). x % 18446744073709551616) sum)))
    (λ (apart : m ≢ n).
    index_else ws n m (next_word ws n) apart ∙ (h.word m pos room ∙ ap (λ (l : List Entry). (t.begun m + length l + length (t.mine m)) % 18446744073709551616) (sym (calls-push_other m k.log e (λ (z : e.caller ≡ m). apart (sym z))))))

opened_few : (k : KernelView) (t : Counts) (e : Entry) → length (calls_by e.caller k.log) < t.begun e.caller → ((m : ℕ) → length (calls_by m k.log) ≤ t.begun m) → (m : ℕ) → length (calls_by m (k.log ++ e ∷ [])) ≤ t.begun m
opened_few k t e fewer all m = dite (ℕ_discrete m e.caller)
    (λ (is : m ≡ e.caller).
    let n = e.caller in
    let long : length (calls_by n (k.log ++ e ∷ [])) ≡ length (calls_by n k.log) + 1 = ap length (calls-push n k.log e refl) ∙ length-append (calls_by n k.log) (e ∷ []) in
    subst (λ (x : ℕ). length (calls_by x (k.log ++ e ∷ [])) ≤ t.begun x) (sym is) (omega arith))
    (λ (apart : m ≢ e.caller). subst (λ (l : List Entry). length l ≤ t.begun m) (sym (calls-push_other m k.log e (λ (z : e.caller ≡ m). apart (sym z)))) (all m))

opened_counted : (ws : List ℕ) (k : KernelView) (t : Counts) (e : Entry) → length (calls_by e.caller k.log) < t.begun e.caller → IsCounted ws k t → IsCounted (set ws e.caller (next_word ws e.caller)) (with_entry k e) t
opened_counted ws k t e fewer h = record {
  word = opened_word ws k t e h;
  none = h.none;
  above = h.above;
  opened = opened_few k t e fewer h.opened;
  mine = λ m. log_longer m k.log e (t.mine m) (h.mine m);
  known = h.known;
  told = λ m. log_longer m k.log e (told_of k m) (h.told m);
  known_len = h.known_len;
  told_len = h.told_len;
}

opens_it : (s : State ℕ View) (h : Kept s) (id : ℕ) (e : Entry) → id ≡ h.seat → length (calls_by e.caller h.knows.log) < known_of h.knows e.caller
    → Kept (state (set s.words e.caller (next_word s.words e.caller)) s.homes (set s.views id (Kernel (with_entry h.knows e))))
opens_it s h id e same fewer =
    let n = e.caller in
    let l = with_entry h.knows e in
    let few : length (calls_by n h.knows.log) < h.counts.begun n = (let a = h.counted.known n in omega arith) in
    let apart : 0 ≢ n = λ (z : 0 ≡ n). (let none : h.counts.begun n ≡ 0 = ap h.counts.begun (sym z) ∙ h.counted.none in absurd (omega arith)) in
    let grows : Grows h.knows l = record { fronts = λ f p. p; log = (e ∷ [], refl); made = omega arith } in
    kernel_kept s h (set s.words n (next_word s.words n)) s.homes id l same grows
    (let z = length_same s.words n (next_word s.words n) in let r = h.room in omega arith)
    (index_else s.words n 0 (next_word s.words n) apart ∙ h.newest)
    h.rises
    (opened_counted s.words h.knows h.counts e few h.counted)
    (ended_grown h.seat h.knows l h.counts h.knows.ended grows h.ended)
    refl
    refl

-- only where the caller's entries are fewer than the calls that it is known to have begun
pub opens : (slots id : ℕ) (k : KernelView) (e : Entry) → length (calls_by e.caller k.log) < known_of k e.caller
    → Allows Kept slots id (Kernel k, []) e.caller (λ n. (n + 1) % 18446744073709551616) (is_open e (step slots e.caller 1 0 no_value) (Kernel k, []))
opens slots id k e fewer s h len at small =
    let same = h.each id (Kernel k) at in
    let is : k ≡ h.knows = one_kernel s.views h.seat id h.knows k h.there at same in
    let few : length (calls_by e.caller h.knows.log) < known_of h.knows e.caller = subst (λ (x : KernelView). length (calls_by e.caller x.log) < known_of x e.caller) is fewer in
    (Kernel (with_entry h.knows e), keeps, tt, opens_it s h id e same few, (ap (λ (x : KernelView). Kernel (with_entry x e)) (sym is), refl))
