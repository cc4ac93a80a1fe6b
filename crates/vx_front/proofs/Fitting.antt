-- Views that still fit after another seat's step.
use Rattle.std.proofs.Common.{◌≡◌, ◌≢◌, ℕ, ◌<◌, ◌≤◌, ◌⊎◌, List, [], ◌∷◌, ◌++◌, set, sym, ap, ◌∙◌, subst, ⊎_elim, inl, inr, arith}
use mathlib.Core.List.{IsPrefix}
use mathlib.Core.Option.{some}
use lib.ListN.{get_elem?}
use Rattle.atomic_table.proofs.Lists.{at_set, set_else}
use Rattle.vx_front.specs.declared.views.View.{View}
use Rattle.vx_front.specs.declared.views.View.TheVariants.{Kernel, Caller, Note, Spent}
use Rattle.vx_front.specs.declared.views.KernelView.{KernelView}
use Rattle.vx_front.specs.declared.views.CallerView.{CallerView}
use Rattle.vx_front.specs.declared.views.NoteView.{NoteView}
use Rattle.vx_front.specs.Views.{calls_by}
use Rattle.vx_front.specs.Rule.{IsPublished, Counts, FitsCaller, FitsNote, Fits, AllFit, IsEnded, AllDiffer, HasSeat}
use Rattle.vx_front.proofs.Rising.{all_published}
use Rattle.vx_front.proofs.Entries.{calls_prefix, prefix_trans}

-- the kernel knows more
pub record Grows (k l : KernelView) : Type 0 where
  pub fronts : (f : ℕ) → IsPublished k.fronts f → IsPublished l.fronts f
  pub log : IsPrefix k.log l.log
  pub made : k.made ≤ l.made

pub caller_grown : (k l : KernelView) (t : Counts) (by : ℕ) (c : CallerView) → Grows k l → FitsCaller k t by c → FitsCaller l t by c
caller_grown k l t by c g h = record {
  front = g.fronts c.front h.front;
  reads = all_published k.fronts l.fronts c.reads g.fronts h.reads;
  past = prefix_trans c.past k.log l.log h.past g.log;
  seen = prefix_trans c.seen k.log l.log h.seen g.log;
  note = prefix_trans c.note k.log l.log h.note g.log;
  one = h.one;
  made = (let a = h.made in let b = g.made in omega arith);
  own = h.own;
  begun = h.begun;
  mine = h.mine;
}

note_grown : (k l : KernelView) (t : Counts) (n : NoteView) → Grows k l → FitsNote k t n → FitsNote l t n
note_grown k l t n g h = record {
  front = g.fronts n.front h.front;
  log = prefix_trans n.log k.log l.log h.log g.log;
  made = (let a = h.made in let b = g.made in omega arith);
  begun = h.begun;
  mine = prefix_trans n.mine (calls_by n.number k.log) (calls_by n.number l.log) h.mine (calls_prefix n.number k.log l.log g.log);
}

pub view_grown : (seat : ℕ) (k l : KernelView) (t : Counts) (by : ℕ) (v : View) → Grows k l → Fits seat k t by v → Fits seat l t by v
view_grown seat k l t by (Kernel m) g h = h
view_grown seat k l t by (Caller c) g h = caller_grown k l t by c g h
view_grown seat k l t by (Note n) g h = note_grown k l t n g h
view_grown seat k l t by Spent g h = tt

pub ended_grown : (seat : ℕ) (k l : KernelView) (t : Counts) (cs : List CallerView) → Grows k l → AllFit seat k t cs → AllFit seat l t cs
ended_grown seat k l t [] g h = tt
ended_grown seat k l t (c ∷ cs) g h = (caller_grown k l t seat c g h.0, ended_grown seat k l t cs g h.1)

pub ended_push : (seat : ℕ) (k : KernelView) (t : Counts) (cs : List CallerView) (c : CallerView) → AllFit seat k t cs → FitsCaller k t seat c → AllFit seat k t (cs ++ c ∷ [])
ended_push seat k t [] c h f = (f, tt)
ended_push seat k t (d ∷ ds) c h f = (h.0, ended_push seat k t ds c h.1 f)

-- the counts change at one number, and none falls
pub record DiffersAt (n : ℕ) (t u : Counts) : Type 0 where
  pub seats : (m : ℕ) → m ≢ n → u.seat_of m ≡ t.seat_of m
  pub begun : (m : ℕ) → m ≢ n → u.begun m ≡ t.begun m
  pub mine : (m : ℕ) → m ≢ n → u.mine m ≡ t.mine m
  pub more : (m : ℕ) → t.begun m ≤ u.begun m

pub caller_other : (k : KernelView) (n : ℕ) (t u : Counts) (by : ℕ) (c : CallerView) → DiffersAt n t u → c.number ≢ n → FitsCaller k t by c → FitsCaller k u by c
caller_other k n t u by c d apart h = record {
  front = h.front;
  reads = h.reads;
  past = h.past;
  seen = h.seen;
  note = h.note;
  one = h.one;
  made = h.made;
  own = d.seats c.number apart ∙ h.own;
  begun = d.begun c.number apart ∙ h.begun;
  mine = d.mine c.number apart ∙ h.mine;
}

note_other : (k : KernelView) (n : ℕ) (t u : Counts) (w : NoteView) → DiffersAt n t u → FitsNote k t w → FitsNote k u w
note_other k n t u w d h = record {
  front = h.front;
  log = h.log;
  made = h.made;
  begun = (let a = h.begun in let b = d.more w.number in omega arith);
  mine = h.mine;
}

-- the number's seat is `id`, and the view is another's
caller_apart : (k : KernelView) (n : ℕ) (t u : Counts) (id by : ℕ) (c : CallerView) → DiffersAt n t u → t.seat_of n ≡ id → by ≢ id → FitsCaller k t by c → FitsCaller k u by c
caller_apart k n t u id by c d own apart h = caller_other k n t u by c d (λ (e : c.number ≡ n). apart (sym h.own ∙ (ap t.seat_of e ∙ own))) h

pub view_apart : (seat : ℕ) (k : KernelView) (n : ℕ) (t u : Counts) (id by : ℕ) (v : View) → DiffersAt n t u → t.seat_of n ≡ id → by ≢ id → Fits seat k t by v → Fits seat k u by v
view_apart seat k n t u id by (Kernel l) d own apart h = h
view_apart seat k n t u id by (Caller c) d own apart h = caller_apart k n t u id by c d own apart h
view_apart seat k n t u id by (Note w) d own apart h = note_other k n t u w d h
view_apart seat k n t u id by Spent d own apart h = tt

pub ended_apart : (seat : ℕ) (k : KernelView) (n : ℕ) (t u : Counts) (id : ℕ) (cs : List CallerView) → DiffersAt n t u → t.seat_of n ≡ id → seat ≢ id → AllFit seat k t cs → AllFit seat k u cs
ended_apart seat k n t u id [] d own apart h = tt
ended_apart seat k n t u id (c ∷ cs) d own apart h = (caller_apart k n t u id seat c d own apart h.0, ended_apart seat k n t u id cs d own apart h.1)

-- no caller has the number yet
pub view_new : (seat : ℕ) (k : KernelView) (n : ℕ) (t u : Counts) (by : ℕ) (v : View) → DiffersAt n t u → k.made < n → Fits seat k t by v → Fits seat k u by v
view_new seat k n t u by (Kernel l) d high h = h
view_new seat k n t u by (Caller c) d high h = caller_other k n t u by c d (λ (e : c.number ≡ n). (let a = h.made in absurd (omega arith))) h
view_new seat k n t u by (Note w) d high h = note_other k n t u w d h
view_new seat k n t u by Spent d high h = tt

pub ended_new : (seat : ℕ) (k : KernelView) (n : ℕ) (t u : Counts) (cs : List CallerView) → DiffersAt n t u → k.made < n → AllFit seat k t cs → AllFit seat k u cs
ended_new seat k n t u [] d high h = tt
ended_new seat k n t u (c ∷ cs) d high h = (caller_other k n t u seat c d (λ (e : c.number ≡ n). (let a = h.0.made in absurd (omega arith))) h.0, ended_new seat k n t u cs d high h.1)

-- views by seat

-- one view is set to w
pub each_set : (seat : ℕ) (k l : KernelView) (t u : Counts) (views : List View) (id : ℕ) (w : View)
    → ((by : ℕ) (v : View) → get_elem? views by ≡ some v → Fits seat k t by v)
    → ((by : ℕ) (v : View) → by ≢ id → Fits seat k t by v → Fits seat l u by v)
    → Fits seat l u id w
    → (by : ℕ) (v : View) → get_elem? (set views id w) by ≡ some v → Fits seat l u by v
each_set seat k l t u views id w each on mine by v e =
    ⊎_elim
    (λ (x : (by ≡ id) × (w ≡ v)). subst (λ (y : ℕ × View). Fits seat l u y.0 y.1) (λ i. (sym x.0 i, x.1 i)) mine)
    (λ (x : (by ≢ id) × (get_elem? views by ≡ some v)). on by v x.0 (each by v x.1))
    (at_set views id by w v e)

-- a caller's seat isn't the kernel's
pub apart_caller : (views : List View) (seat id : ℕ) (k : KernelView) (c : CallerView) → get_elem? views seat ≡ some (Kernel k) → get_elem? views id ≡ some (Caller c) → seat ≢ id
apart_caller views seat id k c there at same =
    let e : some (Kernel k) ≡ some (Caller c) = sym there ∙ ap (get_elem? views) same ∙ at in absurd cc

pub apart_note : (views : List View) (seat id : ℕ) (k : KernelView) (n : NoteView) → get_elem? views seat ≡ some (Kernel k) → get_elem? views id ≡ some (Note n) → seat ≢ id
apart_note views seat id k n there at same =
    let e : some (Kernel k) ≡ some (Note n) = sym there ∙ ap (get_elem? views) same ∙ at in absurd cc

-- two views of the kernel are one
pub one_kernel : (views : List View) (seat id : ℕ) (k l : KernelView) → get_elem? views seat ≡ some (Kernel k) → get_elem? views id ≡ some (Kernel l) → id ≡ seat → l ≡ k
one_kernel views seat id k l there at same =
    let e : some (Kernel l) ≡ some (Kernel k) = sym at ∙ ap (get_elem? views) same ∙ there in cc

-- the callers that have ended

pub ended_seat : (seat : ℕ) (k : KernelView) (t : Counts) (cs : List CallerView) (n : ℕ) → AllFit seat k t cs → IsEnded cs n → t.seat_of n ≡ seat
ended_seat seat k t [] n h i = absurd i
ended_seat seat k t (c ∷ cs) n h i = ⊎_elim (λ (e : c.number ≡ n). ap t.seat_of (sym e) ∙ h.0.own) (λ (r : IsEnded cs n). ended_seat seat k t cs n h.1 r) i

pub ended_last : (cs : List CallerView) (c : CallerView) (n : ℕ) → c.number ≡ n → IsEnded (cs ++ c ∷ []) n
ended_last [] c n e = inl e
ended_last (d ∷ ds) c n e = inr (ended_last ds c n e)

pub ended_more : (cs : List CallerView) (c : CallerView) (n : ℕ) → IsEnded cs n → IsEnded (cs ++ c ∷ []) n
ended_more [] c n i = absurd i
ended_more (d ∷ ds) c n i = ⊎_elim (λ (e : d.number ≡ n). inl e) (λ (r : IsEnded ds n). inr (ended_more ds c n r)) i

ended_split : (cs : List CallerView) (c : CallerView) (n : ℕ) → IsEnded (cs ++ c ∷ []) n → IsEnded cs n ⊎ (c.number ≡ n)
ended_split [] c n i = ⊎_elim (λ (e : c.number ≡ n). inr e) (λ (z : ⊥). absurd z) i
ended_split (d ∷ ds) c n i = ⊎_elim (λ (e : d.number ≡ n). inl (inl e)) (λ (r : IsEnded (ds ++ c ∷ []) n). ⊎_elim (λ (a : IsEnded ds n). inl (inr a)) (λ (b : c.number ≡ n). inr b) (ended_split ds c n r)) i

pub differ_push : (cs : List CallerView) (c : CallerView) → AllDiffer cs → ¬ (IsEnded cs c.number) → AllDiffer (cs ++ c ∷ [])
differ_push [] c h fresh = ((λ (z : ⊥). z), tt)
differ_push (d ∷ ds) c h fresh = ((λ (i : IsEnded (ds ++ c ∷ []) d.number). ⊎_elim (λ (a : IsEnded ds d.number). h.0 a) (λ (e : c.number ≡ d.number). fresh (inl (sym e))) (ended_split ds c d.number i)), differ_push ds c h.1 (λ (r : IsEnded ds c.number). fresh (inr r)))

-- the seats of the others

pub seat_set : (views : List View) (t u : Counts) (n id : ℕ) (w : View) → u.seat_of n ≡ t.seat_of n → t.seat_of n ≢ id → HasSeat views t n → HasSeat (set views id w) u n
seat_set views t u n id w same apart h = record {
  caller = h.caller;
  there = ap (get_elem? (set views id w)) same ∙ (set_else views id (t.seat_of n) w apart ∙ h.there);
  number = h.number;
}

-- a seat that is the kernel's or a note's is no caller's
pub not_kernel : (views : List View) (t : Counts) (n id : ℕ) (k : KernelView) → get_elem? views id ≡ some (Kernel k) → HasSeat views t n → t.seat_of n ≢ id
not_kernel views t n id k at h same =
    let e : some (Kernel k) ≡ some (Caller h.caller) = sym at ∙ ap (get_elem? views) (sym same) ∙ h.there in absurd cc

pub not_note : (views : List View) (t : Counts) (n id : ℕ) (w : NoteView) → get_elem? views id ≡ some (Note w) → HasSeat views t n → t.seat_of n ≢ id
not_note views t n id w at h same =
    let e : some (Note w) ≡ some (Caller h.caller) = sym at ∙ ap (get_elem? views) (sym same) ∙ h.there in absurd cc

-- nor that of a caller of another number
pub not_caller : (views : List View) (t : Counts) (n id : ℕ) (c : CallerView) → get_elem? views id ≡ some (Caller c) → c.number ≢ n → HasSeat views t n → t.seat_of n ≢ id
not_caller views t n id c at apart h same =
    let e : some (Caller c) ≡ some (Caller h.caller) = sym at ∙ ap (get_elem? views) (sym same) ∙ h.there in
    let f : c ≡ h.caller = cc in
    apart (ap (λ (x : CallerView). x.number) f ∙ h.number)
