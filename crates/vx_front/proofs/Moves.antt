-- Each step on word 0 keeps the rule.
use Rattle.std.proofs.Common.{◌≡◌, ◌≢◌, ℕ, zero, suc, ◌+◌, ◌%◌, ◌<◌, ◌≤◌, max, List, [], ◌∷◌, ◌++◌, length, set, refl, sym, ap, ◌∙◌, subst, ⊎_elim, inl, inr, arith, replicate, add-one, length-append}
use Rattle.std.specs.Prelude.{slice_index, slice_index_or}
use mathlib.Core.Option.{some, some-ne-none, some-injective}
use mathlib.Core.List.{IsPrefix}
use mathlib.Core.Logic.{dite}
use native.Mathlib.Decide.{ℕ_discrete}
use lib.ListN.{get_elem?}
use Rattle.atomic_table.specs.Table.{State, step, keeps, opening, Allows, Splits, Joins}
use Rattle.atomic_table.proofs.Lists.{set_again, set_here, set_else, at_longer, at_last}
use Rattle.vx_front.specs.declared.views.Entry.{Entry}
use Rattle.vx_front.specs.declared.views.View.{View}
use Rattle.vx_front.specs.declared.views.View.TheVariants.{Kernel, Caller, Note, Spent}
use Rattle.vx_front.specs.declared.views.KernelView.{KernelView}
use Rattle.vx_front.specs.declared.views.CallerView.{CallerView}
use Rattle.vx_front.specs.declared.views.NoteView.{NoteView}
use Rattle.vx_front.specs.Views.{last_of, with_front, calls_by, known_of, told_of, new_kernel, new_caller, with_caller, with_fronts, with_ended, with_read, kernel_note, caller_note, kernel_with_note, caller_with_note}
use Rattle.vx_front.specs.Rule.{RisesFrom, IsPublished, Counts, FitsCaller, FitsNote, Fits, AllFit, IsEnded, AllDiffer, HasSeat, IsCounted, Kept, first_view}
use Rattle.vx_front.specs.Steps.{CallerFacts, AllEnded, KernelFacts, is_read, is_look, is_publish, note_of}
use Rattle.vx_front.proofs.Rising.{last_published, published_low, published_more, rises_more, last_more, max_published, all_push}
use Rattle.vx_front.proofs.Entries.{prefix_same, prefix_of_nil, nil_of_length, longer_prefix}
use Rattle.vx_front.proofs.Lists.{below, same_word, index_set, index_else, length_same, at_or, at_push, or_push, put, put_here, put_else}
use Rattle.vx_front.proofs.Fitting.{Grows, view_grown, ended_grown, ended_push, DiffersAt, view_apart, ended_apart, view_new, ended_new, each_set, ended_seat, ended_last, ended_more, differ_push, seat_set, not_kernel, not_note, not_caller, apart_caller, apart_note, one_kernel}

abbrev pub no_value : mathlib.Core.Option.Option ℕ
no_value = mathlib.Core.Option.none

abbrev pub state : List ℕ → List (mathlib.Core.Option.Option ℕ) → List View → State ℕ View
state ws hs vs = record { words = ws; homes = hs; views = vs }

-- the kernel's own view becomes l
pub kernel_kept : (s : State ℕ View) (h : Kept s) (ws : List ℕ) (hs : List (mathlib.Core.Option.Option ℕ)) (id : ℕ) (l : KernelView)
    → id ≡ h.seat → Grows h.knows l
    → 0 < length ws → slice_index ws 0 ≡ last_of l.fronts → RisesFrom 0 l.fronts
    → IsCounted ws l h.counts → AllFit h.seat l h.counts l.ended → l.made ≡ h.knows.made → l.ended ≡ h.knows.ended
    → Kept (state ws hs (set s.views id (Kernel l)))
kernel_kept s h ws hs id l same grows room newest rises counted ended made still_ended = record {
  seat = h.seat;
  knows = l;
  counts = h.counts;
  there = subst (λ n. get_elem? (set s.views n (Kernel l)) h.seat ≡ some (Kernel l)) (sym same) (set_here s.views h.seat (Kernel l) (below s.views h.seat (Kernel h.knows) h.there));
  room = room;
  newest = newest;
  rises = rises;
  counted = counted;
  ended = ended;
  each = each_set h.seat h.knows l h.counts h.counts s.views id (Kernel l) h.each (λ by v apart f. view_grown h.seat h.knows l h.counts by v grows f) same;
  all = λ n pos low. ⊎_elim
      (λ (x : HasSeat s.views h.counts n). inl (seat_set s.views h.counts h.counts n id (Kernel l) refl (λ (e : h.counts.seat_of n ≡ id). not_kernel s.views h.counts n h.seat h.knows h.there x (e ∙ same)) x))
      (λ (x : IsEnded h.knows.ended n). inr (subst (λ (cs : List CallerView). IsEnded cs n) (sym still_ended) x))
      (h.all n pos (omega arith));
  differ = subst AllDiffer (sym still_ended) h.differ;
}

-- a caller's own view becomes d, and its counts with it
pub caller_kept : (s : State ℕ View) (h : Kept s) (ws : List ℕ) (hs : List (mathlib.Core.Option.Option ℕ)) (id : ℕ) (c d : CallerView) (u : Counts)
    → get_elem? s.views id ≡ some (Caller c) → d.number ≡ c.number → DiffersAt c.number h.counts u → h.counts.seat_of c.number ≡ id
    → 0 < length ws → slice_index ws 0 ≡ last_of h.knows.fronts
    → IsCounted ws h.knows u → FitsCaller h.knows u id d
    → Kept (state ws hs (set s.views id (Caller d)))
caller_kept s h ws hs id c d u at number differs own room newest counted fits = record {
  seat = h.seat;
  knows = h.knows;
  counts = u;
  there = set_else s.views id h.seat (Caller d) (apart_caller s.views h.seat id h.knows c h.there at) ∙ h.there;
  room = room;
  newest = newest;
  rises = h.rises;
  counted = counted;
  ended = ended_apart h.seat h.knows c.number h.counts u id h.knows.ended differs own (apart_caller s.views h.seat id h.knows c h.there at) h.ended;
  each = each_set h.seat h.knows h.knows h.counts u s.views id (Caller d) h.each (λ by v apart f. view_apart h.seat h.knows c.number h.counts u id by v differs own apart f) fits;
  all = λ n pos low. ⊎_elim
      (λ (x : HasSeat s.views h.counts n). inl (dite (ℕ_discrete n c.number)
      (λ (e : n ≡ c.number). record {
        caller = d;
        there = ap (get_elem? (set s.views id (Caller d))) (ap u.seat_of (e ∙ sym number) ∙ fits.own) ∙ set_here s.views id (Caller d) (below s.views id (Caller c) at);
        number = number ∙ sym e;
      })
      (λ (a : n ≢ c.number). seat_set s.views h.counts u n id (Caller d) (differs.seats n a) (not_caller s.views h.counts n id c at (λ (z : c.number ≡ n). a (sym z)) x) x)))
      (λ (x : IsEnded h.knows.ended n). inr x)
      (h.all n pos low);
  differ = h.differ;
}

pub same_counts : (n : ℕ) (t : Counts) → DiffersAt n t t
same_counts n t = record { seats = λ m h. refl; begun = λ m h. refl; mine = λ m h. refl; more = λ m. omega arith }

-- the words are as they were
pub caller_kept_still : (s : State ℕ View) (h : Kept s) (ws : List ℕ) (hs : List (mathlib.Core.Option.Option ℕ)) (id : ℕ) (c d : CallerView)
    → ws ≡ s.words → get_elem? s.views id ≡ some (Caller c) → d.number ≡ c.number → FitsCaller h.knows h.counts id d
    → Kept (state ws hs (set s.views id (Caller d)))
caller_kept_still s h ws hs id c d same at number fits =
    let mine : FitsCaller h.knows h.counts id c = h.each id (Caller c) at in
    subst (λ (l : List ℕ). Kept (state l hs (set s.views id (Caller d)))) (sym same) (caller_kept s h s.words hs id c d h.counts at number (same_counts c.number h.counts) mine.own h.room h.newest h.counted fits)

-- a new view
pub newcomer_kept : (s : State ℕ View) (w : View) (h : Kept s) → Fits h.seat h.knows h.counts (length s.views) w → Kept (state s.words s.homes (s.views ++ w ∷ []))
newcomer_kept s w h fits = record {
  seat = h.seat;
  knows = h.knows;
  counts = h.counts;
  there = at_longer s.views (w ∷ []) h.seat (Kernel h.knows) h.there;
  room = h.room;
  newest = h.newest;
  rises = h.rises;
  counted = h.counted;
  ended = h.ended;
  each = λ by v e. ⊎_elim
      (h.each by v)
      (λ (x : (by ≡ length s.views) × (w ≡ v)). subst (λ (y : ℕ × View). Fits h.seat h.knows h.counts y.0 y.1) (λ i. (sym x.0 i, x.1 i)) fits)
      (at_push s.views w v by e);
  all = λ n pos low. ⊎_elim
      (λ (x : HasSeat s.views h.counts n). inl (record { caller = x.caller; there = at_longer s.views (w ∷ []) (h.counts.seat_of n) (Caller x.caller) x.there; number = x.number }))
      (λ (x : IsEnded h.knows.ended n). inr x)
      (h.all n pos low);
  differ = h.differ;
}

-- a note is spent
pub spent_kept : (s : State ℕ View) (other : ℕ) (h : Kept s) (m : NoteView) → get_elem? s.views other ≡ some (Note m) → h.seat ≢ other → Kept (state s.words s.homes (set s.views other Spent))
spent_kept s other h m at apart = record {
  seat = h.seat;
  knows = h.knows;
  counts = h.counts;
  there = set_else s.views other h.seat Spent apart ∙ h.there;
  room = h.room;
  newest = h.newest;
  rises = h.rises;
  counted = h.counted;
  ended = h.ended;
  each = each_set h.seat h.knows h.knows h.counts h.counts s.views other Spent h.each (λ by v a f. f) tt;
  all = λ n pos low. ⊎_elim
      (λ (x : HasSeat s.views h.counts n). inl (seat_set s.views h.counts h.counts n other Spent refl (not_note s.views h.counts n other m at x) x))
      (λ (x : IsEnded h.knows.ended n). inr x)
      (h.all n pos low);
  differ = h.differ;
}

-- the table at the start

nothing : (n : ℕ) → known_of (new_kernel 0) n ≡ 0
nothing zero = refl
nothing (suc n) = refl

none_told : (n : ℕ) → told_of (new_kernel 0) n ≡ []
none_told zero = refl
none_told (suc n) = refl

pub first_kept : (ws : List ℕ) → 0 < length ws → ((n : ℕ) → n < length ws → slice_index ws n ≡ 0) → Kept (opening ws [] first_view)
first_kept ws room all = record {
  seat = 0;
  knows = new_kernel 0;
  counts = record { seat_of = λ n. 0; begun = λ n. 0; mine = λ n. [] };
  there = refl;
  room = room;
  newest = all 0 room;
  rises = tt;
  counted = record {
    word = λ n pos low. all n low;
    none = refl;
    above = λ n high. refl;
    opened = λ n. omega arith;
    mine = λ n. ([], refl);
    known = λ n. subst (λ (m : ℕ). m ≤ 0) (sym (nothing n)) (omega arith);
    told = λ n. subst (λ (l : List Entry). IsPrefix l []) (sym (none_told n)) ([], refl);
    known_len = refl;
    told_len = refl;
  };
  ended = tt;
  each = one;
  all = λ n pos low. absurd (omega arith);
  differ = tt;
}
  where
    one : (by : ℕ) (v : View) → get_elem? (first_view ∷ []) by ≡ some v → Fits 0 (new_kernel 0) (record { seat_of = λ n. 0; begun = λ n. 0; mine = λ n. [] }) by v
    one zero v e = subst (Fits 0 (new_kernel 0) (record { seat_of = λ n. 0; begun = λ n. 0; mine = λ n. [] }) 0) (some-injective _ _ e) refl
    one (suc by) v e = absurd (some-ne-none v (sym e))

all_zero : (n m : ℕ) → slice_index (replicate n 0) m ≡ 0
all_zero zero m = refl
all_zero (suc n) zero = refl
all_zero (suc n) (suc m) = all_zero n m

pub zeros_kept : (ws : List ℕ) (n : ℕ) → ws ≡ replicate (n + 1) 0 → Kept (opening ws [] first_view)
zeros_kept ws n e =
    let f : ws ≡ replicate (suc n) 0 = rw add-one at e in
    first_kept ws (subst (λ (l : List ℕ). 0 < length l) (sym f) (omega arith)) (λ m low. subst (λ (l : List ℕ). slice_index l m ≡ 0) (sym f) (all_zero (suc n) m))

-- a caller reads the front
pub reads : (slots id : ℕ) (c : CallerView) → Allows Kept slots id (Caller c, []) 0 (λ n. n) (is_read (step slots 0 0 0 no_value) (Caller c, []))
reads slots id c s h len at small =
    let f = slice_index s.words 0 in
    let mine : FitsCaller h.knows h.counts id c = h.each id (Caller c) at in
    let stands : IsPublished h.knows.fronts f = subst (IsPublished h.knows.fronts) (sym h.newest) (last_published h.knows.fronts) in
    let fits : FitsCaller h.knows h.counts id (with_read c f) = record { front = stands; reads = all_push h.knows.fronts c.reads f mine.reads stands; past = mine.past; seen = mine.seen; note = mine.note; one = mine.one; made = mine.made; own = mine.own; begun = mine.begun; mine = mine.mine } in (
      Caller (with_read c f),
      keeps,
      tt,
      caller_kept_still s h (set s.words 0 f) s.homes id c (with_read c f) (same_word s.words) at refl fits,
      ((refl, subst (λ (z : ℕ). c.front ≤ z) (sym h.newest) (published_low c.front h.knows.fronts h.rises mine.front)), refl),
    )

-- what the rule says of a caller
pub facts_of_caller : (s : State ℕ View) (h : Kept s) (by : ℕ) (c : CallerView) → FitsCaller h.knows h.counts by c → CallerFacts c
facts_of_caller s h by c mine = record {
  log = h.knows.log;
  past = mine.past;
  seen = mine.seen;
  note = mine.note;
  mine = subst (λ (l : List Entry). IsPrefix l (calls_by c.number h.knows.log)) mine.mine (h.counted.mine c.number);
  opened = subst (λ (m : ℕ). length (calls_by c.number h.knows.log) ≤ m) mine.begun (h.counted.opened c.number);
}

pub looks : (slots id : ℕ) (c : CallerView) → Allows Kept slots id (Caller c, []) 0 (λ n. n) (is_look (step slots 0 0 0 no_value) (Caller c, []))
looks slots id c s h len at small =
    let mine : FitsCaller h.knows h.counts id c = h.each id (Caller c) at in
    (Caller c, keeps, tt, caller_kept_still s h (set s.words 0 (slice_index s.words 0)) s.homes id c c (same_word s.words) at refl mine, ((refl, facts_of_caller s h id c mine), refl))

-- what the rule says of the kernel

all_ended : (s : State ℕ View) (h : Kept s) (cs : List CallerView) → AllFit h.seat h.knows h.counts cs → AllEnded h.knows cs
unfolding facts_of_caller
all_ended s h [] f = tt
all_ended s h (c ∷ cs) f =
    let facts = facts_of_caller s h h.seat c f.0 in
    (record { front = f.0.front; reads = f.0.reads; seen = f.0.seen; mine = facts.mine; opened = facts.opened }, all_ended s h cs f.1)

pub facts_of_kernel : (s : State ℕ View) (h : Kept s) → KernelFacts h.knows
facts_of_kernel s h = record { rises = h.rises; told = h.counted.told; known_len = h.counted.known_len; told_len = h.counted.told_len; ended = all_ended s h h.knows.ended h.ended }

pub same_grows : (k : KernelView) → Grows k k
same_grows k = record { fronts = λ f h. h; log = prefix_same k.log; made = omega arith }

pub kernel_looks : (slots id : ℕ) (k : KernelView) → Allows Kept slots id (Kernel k, []) 0 (λ n. n) (is_look (step slots 0 0 0 no_value) (Kernel k, []))
kernel_looks slots id k s h len at small =
    let same = h.each id (Kernel k) at in
    let is : k ≡ h.knows = one_kernel s.views h.seat id h.knows k h.there at same in
    let kept : Kept (state s.words s.homes (set s.views id (Kernel h.knows))) = kernel_kept s h s.words s.homes id h.knows same (same_grows h.knows) h.room h.newest h.rises h.counted h.ended refl refl in (
      Kernel h.knows,
      keeps,
      tt,
      subst (λ (l : List ℕ). Kept (state l s.homes (set s.views id (Kernel h.knows)))) (sym (same_word s.words)) kept,
      ((ap (λ (x : KernelView). Kernel x) (sym is), subst KernelFacts (sym is) (facts_of_kernel s h)), refl),
    )

-- the kernel publishes

counted_front : (ws : List ℕ) (x : ℕ) (k l : KernelView) (t : Counts) → l.made ≡ k.made → l.log ≡ k.log → l.known ≡ k.known → l.told ≡ k.told → IsCounted ws k t → IsCounted (set ws 0 x) l t
counted_front ws x k l t made log known told h =
    record {
      word = λ n pos low.
          let same : slice_index (set ws 0 x) n ≡ slice_index ws n = index_else ws 0 n x (λ (e : n ≡ 0). absurd (omega arith)) in
          let w = h.word n pos (let z = length_same ws 0 x in omega arith) in
          subst (λ (g : List Entry). slice_index (set ws 0 x) n ≡ (t.begun n + length (calls_by n g) + length (t.mine n)) % 18446744073709551616) (sym log) (same ∙ w);
      none = h.none;
      above = λ n high. h.above n (omega arith);
      opened = λ n. subst (λ (g : List Entry). length (calls_by n g) ≤ t.begun n) (sym log) (h.opened n);
      mine = λ n. subst (λ (g : List Entry). IsPrefix (t.mine n) (calls_by n g)) (sym log) (h.mine n);
      known = λ n. subst (λ (g : List ℕ). slice_index_or g n 0 ≤ t.begun n) (sym known) (h.known n);
      told = λ n. subst (λ (p : List (List Entry) × List Entry). IsPrefix (slice_index_or p.0 n []) (calls_by n p.1)) (λ i. (sym told i, sym log i)) (h.told n);
      known_len = ap length known ∙ (h.known_len ∙ ap (λ m. m + 1) (sym made));
      told_len = ap length told ∙ (h.told_len ∙ ap (λ m. m + 1) (sym made));
    }

pub publishes : (slots id : ℕ) (k : KernelView) (new : ℕ) → Allows Kept slots id (Kernel k, []) 0 (λ n. max n new) (is_publish (step slots 0 new 0 no_value) (Kernel k, []))
publishes slots id k new s h len at small =
    let same = h.each id (Kernel k) at in
    let is : k ≡ h.knows = one_kernel s.views h.seat id h.knows k h.there at same in
    let f = max (slice_index s.words 0) new in
    let fronts = with_front h.knows.fronts new in
    let l : KernelView = with_fronts h.knows fronts in
    let grows : Grows h.knows l = record { fronts = λ g p. published_more h.knows.fronts new g p; log = prefix_same h.knows.log; made = omega arith } in (
      Kernel l,
      keeps,
      tt,
      kernel_kept s h (set s.words 0 f) s.homes id l same grows
          (let z = length_same s.words 0 f in let r = h.room in omega arith)
          (index_set s.words 0 f h.room ∙ (ap (λ (x : ℕ). max x new) h.newest ∙ sym (last_more h.knows.fronts new)))
          (rises_more h.knows.fronts new h.rises)
          (counted_front s.words f h.knows l h.counts refl refl refl refl h.counted)
          (ended_grown h.seat h.knows l h.counts h.knows.ended grows h.ended)
          refl
          refl,
      (ap (λ (x : KernelView). Kernel (with_fronts x (with_front x.fronts new))) (sym is), refl),
    )

-- the kernel makes a caller

-- the next number goes to the seat x
abbrev seated : (k : KernelView) (t : Counts) (x : ℕ) → Counts
seated k t x = record { seat_of = put t.seat_of (k.made + 1) x; begun = t.begun; mine = t.mine }

seated_differs : (k : KernelView) (t : Counts) (x : ℕ) → DiffersAt (k.made + 1) t (seated k t x)
seated_differs k t x = record { seats = λ m apart. put_else t.seat_of (k.made + 1) x m apart; begun = λ m apart. refl; mine = λ m apart. refl; more = λ m. omega arith }

counted_seats : (ws : List ℕ) (k : KernelView) (t : Counts) (seats : ℕ → ℕ) → IsCounted ws k t → IsCounted ws k (record { seat_of = seats; begun = t.begun; mine = t.mine })
counted_seats ws k t seats h = record { word = h.word; none = h.none; above = h.above; opened = h.opened; mine = h.mine; known = h.known; told = h.told; known_len = h.known_len; told_len = h.told_len }

counted_caller : (ws : List ℕ) (k : KernelView) (t : Counts) → IsCounted ws k t → IsCounted ws (with_caller k) t
counted_caller ws k t h = record {
  word = h.word;
  none = h.none;
  above = λ n high. h.above n (omega arith);
  opened = h.opened;
  mine = h.mine;
  known = λ n. subst (λ (m : ℕ). m ≤ t.begun n) (sym (or_push k.known n 0)) (h.known n);
  told = λ n. subst (λ (l : List Entry). IsPrefix l (calls_by n k.log)) (sym (or_push k.told n [])) (h.told n);
  known_len = length-append k.known (0 ∷ []) ∙ ap (λ m. m + 1) h.known_len;
  told_len = length-append k.told ([] ∷ []) ∙ ap (λ m. m + 1) h.told_len;
}

new_fits : (ws : List ℕ) (k : KernelView) (t : Counts) (x : ℕ) → IsCounted ws k t → FitsCaller (with_caller k) (seated k t x) x (new_caller (k.made + 1))
new_fits ws k t x h =
    let n = k.made + 1 in
    let none : t.begun n ≡ 0 = h.above n (omega arith) in
    let few : length (calls_by n k.log) ≤ 0 = subst (λ (m : ℕ). length (calls_by n k.log) ≤ m) none (h.opened n) in
    let empty : calls_by n k.log ≡ [] = nil_of_length (calls_by n k.log) few in record {
      front = inl refl;
      reads = tt;
      past = (k.log, refl);
      seen = (k.log, refl);
      note = (k.log, refl);
      one = omega arith;
      made = omega arith;
      own = put_here t.seat_of n x;
      begun = none;
      mine = prefix_of_nil (t.mine n) (subst (IsPrefix (t.mine n)) empty (h.mine n));
    }

makes_it : (s : State ℕ View) (h : Kept s) (id : ℕ) → id ≡ h.seat → Kept (state s.words s.homes (set s.views id (Kernel (with_caller h.knows)) ++ Caller (new_caller (h.knows.made + 1)) ∷ []))
makes_it s h id same =
    let l = with_caller h.knows in
    let w = Caller (new_caller (h.knows.made + 1)) in
    let views = set s.views id (Kernel l) in
    let x = length views in
    let u = seated h.knows h.counts x in
    let high : h.knows.made < h.knows.made + 1 = omega arith in
    let differs = seated_differs h.knows h.counts x in
    let grows : Grows h.knows l = record { fronts = λ f p. p; log = prefix_same h.knows.log; made = omega arith } in
    let fits = new_fits s.words h.knows h.counts x h.counted in
    let here : get_elem? views h.seat ≡ some (Kernel l) = subst (λ n. get_elem? (set s.views n (Kernel l)) h.seat ≡ some (Kernel l)) (sym same) (set_here s.views h.seat (Kernel l) (below s.views h.seat (Kernel h.knows) h.there)) in
    let counted = counted_caller s.words h.knows u (counted_seats s.words h.knows h.counts u.seat_of h.counted) in record {
      seat = h.seat;
      knows = l;
      counts = u;
      there = at_longer views (w ∷ []) h.seat (Kernel l) here;
      room = h.room;
      newest = h.newest;
      rises = h.rises;
      counted = counted;
      ended = ended_grown h.seat h.knows l u h.knows.ended grows (ended_new h.seat h.knows (h.knows.made + 1) h.counts u h.knows.ended differs high h.ended);
      each = λ by v e. ⊎_elim
          (each_set h.seat h.knows l h.counts u s.views id (Kernel l) h.each (λ b z a f. view_grown h.seat h.knows l u b z grows (view_new h.seat h.knows (h.knows.made + 1) h.counts u b z differs high f)) same by v)
          (λ (p : (by ≡ x) × (w ≡ v)). subst (λ (y : ℕ × View). Fits h.seat l u y.0 y.1) (λ i. (sym p.0 i, p.1 i)) fits)
          (at_push views w v by e);
      all = λ n pos low. dite (ℕ_discrete n (h.knows.made + 1))
          (λ (e : n ≡ h.knows.made + 1). inl (record { caller = new_caller (h.knows.made + 1); there = at_last views w (u.seat_of n) (sym (ap u.seat_of e ∙ fits.own)); number = sym e }))
          (λ (a : n ≢ h.knows.made + 1). ⊎_elim
          (λ (y : HasSeat s.views h.counts n).
          let z = seat_set s.views h.counts u n id (Kernel l) (differs.seats n a) (λ (e : h.counts.seat_of n ≡ id). not_kernel s.views h.counts n h.seat h.knows h.there y (e ∙ same)) y in
          inl (record { caller = z.caller; there = at_longer views (w ∷ []) (u.seat_of n) (Caller z.caller) z.there; number = z.number }))
          (λ (y : IsEnded h.knows.ended n). inr y)
          (h.all n pos (omega arith)));
      differ = h.differ;
    }

pub makes : (id : ℕ) (k : KernelView) → Splits Kept id (Kernel k) (Kernel (with_caller k)) (Caller (new_caller (k.made + 1)))
makes id k s h at =
    let same = h.each id (Kernel k) at in
    let is : k ≡ h.knows = one_kernel s.views h.seat id h.knows k h.there at same in
    subst (λ (x : KernelView). Kept (state s.words s.homes (set s.views id (Kernel (with_caller x)) ++ Caller (new_caller (x.made + 1)) ∷ []))) (sym is) (makes_it s h id same)

-- notes

pub kernel_tells : (id : ℕ) (k : KernelView) → Splits Kept id (Kernel k) (Kernel k) (note_of (Kernel k))
kernel_tells id k s h at =
    let same = h.each id (Kernel k) at in
    let is : k ≡ h.knows = one_kernel s.views h.seat id h.knows k h.there at same in
    let fits : FitsNote h.knows h.counts (kernel_note h.knows) = record { front = last_published h.knows.fronts; log = prefix_same h.knows.log; made = omega arith; begun = omega arith; mine = (calls_by 0 h.knows.log, refl) } in
    subst (λ (l : List View). Kept (state s.words s.homes (l ++ note_of (Kernel k) ∷ []))) (sym (set_again s.views id (Kernel k) at))
    (newcomer_kept s (note_of (Kernel k)) h (subst (λ (x : KernelView). FitsNote h.knows h.counts (kernel_note x)) (sym is) fits))

pub caller_tells : (id : ℕ) (c : CallerView) → Splits Kept id (Caller c) (Caller c) (note_of (Caller c))
caller_tells id c s h at =
    let mine : FitsCaller h.knows h.counts id c = h.each id (Caller c) at in
    let fits : FitsNote h.knows h.counts (caller_note c) = record {
      front = inl refl;
      log = (h.knows.log, refl);
      made = mine.made;
      begun = subst (λ (m : ℕ). c.begun ≤ m) (sym mine.begun) (omega arith);
      mine = subst (λ (l : List Entry). IsPrefix l (calls_by c.number h.knows.log)) mine.mine (h.counted.mine c.number);
    } in
    subst (λ (l : List View). Kept (state s.words s.homes (l ++ note_of (Caller c) ∷ []))) (sym (set_again s.views id (Caller c) at))
    (newcomer_kept s (note_of (Caller c)) h fits)

-- of the two seats of a join, the second is as it was
still : (views : List View) (id other : ℕ) (both w : View) → ¬ (other ≡ id) → get_elem? (set views id both) other ≡ some w → get_elem? views other ≡ some w
still views id other both w apart e = sym (set_else views id other both apart) ∙ e

pub caller_hears : (id : ℕ) (c : CallerView) (other : ℕ) (n : NoteView) → Joins Kept id (Caller c) other (Note n) (Caller (caller_with_note c n)) Spent
unfolding caller_kept
caller_hears id c other n s h at apart there =
    let mine : FitsCaller h.knows h.counts id c = h.each id (Caller c) at in
    let d = caller_with_note c n in
    let was = still s.views id other (Caller d) (Note n) apart there in
    let theirs : FitsNote h.knows h.counts n = h.each other (Note n) was in
    let fits : FitsCaller h.knows h.counts id d = record {
      front = max_published h.knows.fronts c.front n.front mine.front theirs.front;
      reads = mine.reads;
      past = mine.seen;
      seen = longer_prefix c.seen n.log h.knows.log mine.seen theirs.log;
      note = theirs.log;
      one = mine.one;
      made = mine.made;
      own = mine.own;
      begun = mine.begun;
      mine = mine.mine;
    } in
    let one = caller_kept s h s.words s.homes id c d h.counts at refl (same_counts c.number h.counts) mine.own h.room h.newest h.counted fits in
    spent_kept (state s.words s.homes (set s.views id (Caller d))) other one n there (apart_note s.views h.seat other h.knows n h.there was)

counted_note : (ws : List ℕ) (k : KernelView) (t : Counts) (n : NoteView) → FitsNote k t n → IsCounted ws k t → IsCounted ws (kernel_with_note k n) t
counted_note ws k t n f h = record {
  word = h.word;
  none = h.none;
  above = h.above;
  opened = h.opened;
  mine = h.mine;
  known = λ m. ⊎_elim
      (λ e. subst (λ (x : ℕ). x ≤ t.begun m) (sym e) (h.known m))
      (λ e. subst (λ (x : ℕ). x ≤ t.begun m) (sym e.1) (subst (λ (x : ℕ). max (known_of k n.number) n.begun ≤ t.begun x) (sym e.0) (let a = h.known n.number in let b = f.begun in omega arith)))
      (at_or k.known n.number m (max (known_of k n.number) n.begun) 0);
  told = λ m. ⊎_elim
      (λ e. subst (λ (x : List Entry). IsPrefix x (calls_by m k.log)) (sym e) (h.told m))
      (λ e. subst (λ (x : List Entry). IsPrefix x (calls_by m k.log)) (sym e.1) (subst (λ (x : ℕ). IsPrefix n.mine (calls_by x k.log)) (sym e.0) f.mine))
      (at_or k.told n.number m n.mine []);
  known_len = length_same k.known n.number (max (known_of k n.number) n.begun) ∙ h.known_len;
  told_len = length_same k.told n.number n.mine ∙ h.told_len;
}

pub kernel_hears : (id : ℕ) (k : KernelView) (other : ℕ) (n : NoteView) → Joins Kept id (Kernel k) other (Note n) (Kernel (kernel_with_note k n)) Spent
unfolding kernel_kept
kernel_hears id k other n s h at apart there =
    let same = h.each id (Kernel k) at in
    let is : k ≡ h.knows = one_kernel s.views h.seat id h.knows k h.there at same in
    let was = still s.views id other (Kernel (kernel_with_note k n)) (Note n) apart there in
    let theirs : FitsNote h.knows h.counts n = h.each other (Note n) was in
    let l = kernel_with_note h.knows n in
    let grows : Grows h.knows l = record { fronts = λ f p. p; log = prefix_same h.knows.log; made = omega arith } in
    let one = kernel_kept s h s.words s.homes id l same grows h.room h.newest h.rises (counted_note s.words h.knows h.counts n theirs h.counted) (ended_grown h.seat h.knows l h.counts h.knows.ended grows h.ended) refl refl in
    let two = spent_kept (state s.words s.homes (set s.views id (Kernel l))) other one n (subst (λ (x : KernelView). get_elem? (set s.views id (Kernel (kernel_with_note x n))) other ≡ some (Note n)) is there) (apart_note s.views h.seat other h.knows n h.there was) in
    subst (λ (x : KernelView). Kept (state s.words s.homes (set (set s.views id (Kernel (kernel_with_note x n))) other Spent))) (sym is) two

-- the kernel takes in a caller that has ended

abbrev held : Counts → ℕ → ℕ → Counts
held t n seat = record { seat_of = put t.seat_of n seat; begun = t.begun; mine = t.mine }

takes_it : (s : State ℕ View) (h : Kept s) (id other : ℕ) (c : CallerView) → id ≡ h.seat → get_elem? s.views other ≡ some (Caller c)
    → Kept (state s.words s.homes (set (set s.views id (Kernel (with_ended h.knows c))) other Spent))
takes_it s h id other c same was =
    let theirs : FitsCaller h.knows h.counts other c = h.each other (Caller c) was in
    let l = with_ended h.knows c in
    let u = held h.counts c.number h.seat in
    let apart : h.seat ≢ other = apart_caller s.views h.seat other h.knows c h.there was in
    let grows : Grows h.knows l = record { fronts = λ f p. p; log = prefix_same h.knows.log; made = omega arith } in
    let differs : DiffersAt c.number h.counts u = record { seats = λ m a. put_else h.counts.seat_of c.number h.seat m a; begun = λ m a. refl; mine = λ m a. refl; more = λ m. omega arith } in
    let fits : FitsCaller l u h.seat c = record {
      front = theirs.front;
      reads = theirs.reads;
      past = theirs.past;
      seen = theirs.seen;
      note = theirs.note;
      one = theirs.one;
      made = theirs.made;
      own = put_here h.counts.seat_of c.number h.seat;
      begun = theirs.begun;
      mine = theirs.mine;
    } in
    let counted = counted_seats s.words h.knows h.counts u.seat_of h.counted in
    let views = set s.views id (Kernel l) in record {
      seat = h.seat;
      knows = l;
      counts = u;
      there = set_else views other h.seat Spent apart ∙ subst (λ n. get_elem? (set s.views n (Kernel l)) h.seat ≡ some (Kernel l)) (sym same) (set_here s.views h.seat (Kernel l) (below s.views h.seat (Kernel h.knows) h.there));
      room = h.room;
      newest = h.newest;
      rises = h.rises;
      counted = record { word = counted.word; none = counted.none; above = counted.above; opened = counted.opened; mine = counted.mine; known = counted.known; told = counted.told; known_len = counted.known_len; told_len = counted.told_len };
      ended = ended_push h.seat l u h.knows.ended c (ended_apart h.seat l c.number h.counts u other h.knows.ended differs theirs.own apart (ended_grown h.seat h.knows l h.counts h.knows.ended grows h.ended)) fits;
      each = each_set h.seat l l h.counts u views other Spent
          (each_set h.seat h.knows l h.counts h.counts s.views id (Kernel l) h.each (λ by v a f. view_grown h.seat h.knows l h.counts by v grows f) same)
          (λ by v a f. view_apart h.seat l c.number h.counts u other by v differs theirs.own a f)
          tt;
      all = λ n pos low. ⊎_elim
          (λ (x : HasSeat s.views h.counts n). dite (ℕ_discrete n c.number)
          (λ (e : n ≡ c.number). inr (ended_last h.knows.ended c n (sym e)))
          (λ (a : n ≢ c.number).
          let y = seat_set s.views h.counts h.counts n id (Kernel l) refl (λ (e : h.counts.seat_of n ≡ id). not_kernel s.views h.counts n h.seat h.knows h.there x (e ∙ same)) x in
          inl (seat_set views h.counts u n other Spent (differs.seats n a) (not_caller s.views h.counts n other c was (λ (z : c.number ≡ n). a (sym z)) x) y)))
          (λ (x : IsEnded h.knows.ended n). inr (ended_more h.knows.ended c n x))
          (h.all n pos low);
      differ = differ_push h.knows.ended c h.differ (λ (i : IsEnded h.knows.ended c.number). apart (sym (ended_seat h.seat h.knows h.counts h.knows.ended c.number h.ended i) ∙ theirs.own));
    }

pub kernel_takes : (id : ℕ) (k : KernelView) (other : ℕ) (c : CallerView) → Joins Kept id (Kernel k) other (Caller c) (Kernel (with_ended k c)) Spent
kernel_takes id k other c s h at apart there =
    let same = h.each id (Kernel k) at in
    let is : k ≡ h.knows = one_kernel s.views h.seat id h.knows k h.there at same in
    let was = still s.views id other (Kernel (with_ended k c)) (Caller c) apart there in
    subst (λ (x : KernelView). Kept (state s.words s.homes (set (set s.views id (Kernel (with_ended x c))) other Spent))) (sym is) (takes_it s h id other c same was)
