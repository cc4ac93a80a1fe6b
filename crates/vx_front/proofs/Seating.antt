-- The steps, at a seat that is known to be the kernel's or a caller's.
use Rattle.std.proofs.Common.{◌≡◌, ℕ, ◌+◌, ◌%◌, ◌<◌, ◌≤◌, max, [], ◌∷◌, ◌++◌, length, sym, subst, arith}
use mathlib.Core.List.{IsPrefix}
use Rattle.atomic_table.specs.Table.{Me, step, Allows, Splits, Joins}
use Rattle.atomic_table.specs.Seated.{TableId}
use Rattle.vx_front.specs.declared.views.Entry.{Entry}
use Rattle.vx_front.specs.declared.views.View.{View}
use Rattle.vx_front.specs.declared.views.View.TheVariants.{Kernel, Caller, Note, Spent}
use Rattle.vx_front.specs.declared.views.KernelView.{KernelView}
use Rattle.vx_front.specs.declared.views.CallerView.{CallerView}
use Rattle.vx_front.specs.declared.views.NoteView.{NoteView}
use Rattle.vx_front.specs.Views.{calls_by, known_of}
use Rattle.vx_front.specs.Rule.{Kept}
use Rattle.vx_front.specs.Steps.{view_after_split, next_caller_view, note_of, joined_view, is_read, is_look, is_publish, is_begin, is_open, is_close, kernel_in, caller_in}
use Rattle.vx_front.proofs.Moves.{no_value, reads, looks, kernel_looks, publishes, makes, kernel_tells, caller_tells, caller_hears, kernel_hears, kernel_takes}
use Rattle.vx_front.proofs.Calling.{begins, opens, closes}

-- a seat of the table has its word there
pub word_there : (n : ℕ) (a b : TableId) → a ≡ b → n < a.words → n < b.words
word_there n a b same h = subst (λ (t : TableId). n < t.words) same h

pub made_there : (n : ℕ) (a b : TableId) (k l : KernelView) → a ≡ b → k ≡ l → n ≤ l.made → k.made < a.words → n < b.words
made_there n a b k l same is low h =
    let here : n ≤ k.made = subst (λ (x : KernelView). n ≤ x.made) (sym is) low in
    word_there n a b same (omega arith)

pub next_there : (c d : CallerView) (e : Entry) → c ≡ d → IsPrefix (d.mine ++ e ∷ []) (calls_by d.number d.seen) → IsPrefix (c.mine ++ e ∷ []) (calls_by c.number c.seen)
next_there c d e is h = subst (λ (x : CallerView). IsPrefix (x.mine ++ e ∷ []) (calls_by x.number x.seen)) (sym is) h

pub begun_there : (n : ℕ) (k l : KernelView) → k ≡ l → length (calls_by n l.log) < known_of l n → length (calls_by n k.log) < known_of k n
begun_there n k l is h = subst (λ (x : KernelView). length (calls_by n x.log) < known_of x n) (sym is) h

abbrev IsKernels : Me ℕ View → Type 0
IsKernels me = me ≡ (Kernel (kernel_in me.0), [])

abbrev IsCallers : Me ℕ View → Type 0
IsCallers me = me ≡ (Caller (caller_in me.0), [])

pub seat_reads : (slots id : ℕ) (me : Me ℕ View) → IsCallers me → Allows Kept slots id me 0 (λ n. n) (is_read (step slots 0 0 0 no_value) me)
seat_reads slots id me is = subst (λ (m : Me ℕ View). Allows Kept slots id m 0 (λ n. n) (is_read (step slots 0 0 0 no_value) m)) (sym is) (reads slots id (caller_in me.0))

pub seat_looks : (slots id : ℕ) (me : Me ℕ View) → IsCallers me → Allows Kept slots id me 0 (λ n. n) (is_look (step slots 0 0 0 no_value) me)
seat_looks slots id me is = subst (λ (m : Me ℕ View). Allows Kept slots id m 0 (λ n. n) (is_look (step slots 0 0 0 no_value) m)) (sym is) (looks slots id (caller_in me.0))

pub kernel_seat_looks : (slots id : ℕ) (me : Me ℕ View) → IsKernels me → Allows Kept slots id me 0 (λ n. n) (is_look (step slots 0 0 0 no_value) me)
kernel_seat_looks slots id me is = subst (λ (m : Me ℕ View). Allows Kept slots id m 0 (λ n. n) (is_look (step slots 0 0 0 no_value) m)) (sym is) (kernel_looks slots id (kernel_in me.0))

pub seat_publishes : (slots id : ℕ) (me : Me ℕ View) (new : ℕ) → IsKernels me → Allows Kept slots id me 0 (λ n. max n new) (is_publish (step slots 0 new 0 no_value) me)
seat_publishes slots id me new is = subst (λ (m : Me ℕ View). Allows Kept slots id m 0 (λ n. max n new) (is_publish (step slots 0 new 0 no_value) m)) (sym is) (publishes slots id (kernel_in me.0) new)

pub seat_begins : (slots id : ℕ) (me : Me ℕ View) (n : ℕ) → n ≡ (caller_in me.0).number → IsCallers me → Allows Kept slots id me n (λ x. (x + 1) % 18446744073709551616) (is_begin (step slots n 1 0 no_value) me)
seat_begins slots id me n number is =
    subst (λ (m : Me ℕ View). Allows Kept slots id m n (λ x. (x + 1) % 18446744073709551616) (is_begin (step slots n 1 0 no_value) m)) (sym is)
    (subst (λ (i : ℕ). Allows Kept slots id (Caller (caller_in me.0), []) i (λ x. (x + 1) % 18446744073709551616) (is_begin (step slots i 1 0 no_value) (Caller (caller_in me.0), []))) (sym number) (begins slots id (caller_in me.0)))

pub seat_closes : (slots id : ℕ) (me : Me ℕ View) (n : ℕ) (e : Entry) → n ≡ (caller_in me.0).number → IsPrefix ((caller_in me.0).mine ++ e ∷ []) (calls_by (caller_in me.0).number (caller_in me.0).seen) → IsCallers me
    → Allows Kept slots id me n (λ x. (x + 1) % 18446744073709551616) (is_close e (step slots n 1 0 no_value) me)
seat_closes slots id me n e number next is =
    subst (λ (m : Me ℕ View). Allows Kept slots id m n (λ x. (x + 1) % 18446744073709551616) (is_close e (step slots n 1 0 no_value) m)) (sym is)
    (subst (λ (i : ℕ). Allows Kept slots id (Caller (caller_in me.0), []) i (λ x. (x + 1) % 18446744073709551616) (is_close e (step slots i 1 0 no_value) (Caller (caller_in me.0), []))) (sym number) (closes slots id (caller_in me.0) e next))

pub seat_opens : (slots id : ℕ) (me : Me ℕ View) (n : ℕ) (e : Entry) → e.caller ≡ n → length (calls_by n (kernel_in me.0).log) < known_of (kernel_in me.0) n → IsKernels me
    → Allows Kept slots id me n (λ x. (x + 1) % 18446744073709551616) (is_open e (step slots n 1 0 no_value) me)
seat_opens slots id me n e number fewer is =
    let k = kernel_in me.0 in
    let few : length (calls_by e.caller k.log) < known_of k e.caller = subst (λ (i : ℕ). length (calls_by i k.log) < known_of k i) (sym number) fewer in
    subst (λ (m : Me ℕ View). Allows Kept slots id m n (λ x. (x + 1) % 18446744073709551616) (is_open e (step slots n 1 0 no_value) m)) (sym is)
    (subst (λ (i : ℕ). Allows Kept slots id (Kernel k, []) i (λ x. (x + 1) % 18446744073709551616) (is_open e (step slots i 1 0 no_value) (Kernel k, []))) number (opens slots id k e few))

pub seat_makes : (id : ℕ) (v : View) (k : KernelView) → v ≡ Kernel k → Splits Kept id v (view_after_split v) (next_caller_view v)
seat_makes id v k is = subst (λ (m : View). Splits Kept id m (view_after_split m) (next_caller_view m)) (sym is) (makes id k)

pub kernel_seat_tells : (id : ℕ) (v : View) (k : KernelView) → v ≡ Kernel k → Splits Kept id v v (note_of v)
kernel_seat_tells id v k is = subst (λ (m : View). Splits Kept id m m (note_of m)) (sym is) (kernel_tells id k)

pub caller_seat_tells : (id : ℕ) (v : View) (c : CallerView) → v ≡ Caller c → Splits Kept id v v (note_of v)
caller_seat_tells id v c is = subst (λ (m : View). Splits Kept id m m (note_of m)) (sym is) (caller_tells id c)

pub caller_seat_hears : (id : ℕ) (v : View) (c : CallerView) (other : ℕ) (w : View) (n : NoteView) → v ≡ Caller c → w ≡ Note n → Joins Kept id v other w (joined_view v w) Spent
caller_seat_hears id v c other w n is that = subst (λ (m : View). Joins Kept id m other w (joined_view m w) Spent) (sym is) (subst (λ (m : View). Joins Kept id (Caller c) other m (joined_view (Caller c) m) Spent) (sym that) (caller_hears id c other n))

pub kernel_seat_hears : (id : ℕ) (v : View) (k : KernelView) (other : ℕ) (w : View) (n : NoteView) → v ≡ Kernel k → w ≡ Note n → Joins Kept id v other w (joined_view v w) Spent
kernel_seat_hears id v k other w n is that = subst (λ (m : View). Joins Kept id m other w (joined_view m w) Spent) (sym is) (subst (λ (m : View). Joins Kept id (Kernel k) other m (joined_view (Kernel k) m) Spent) (sym that) (kernel_hears id k other n))

pub kernel_seat_takes : (id : ℕ) (v : View) (k : KernelView) (other : ℕ) (w : View) (c : CallerView) → v ≡ Kernel k → w ≡ Caller c → Joins Kept id v other w (joined_view v w) Spent
kernel_seat_takes id v k other w c is that = subst (λ (m : View). Joins Kept id m other w (joined_view m w) Spent) (sym is) (subst (λ (m : View). Joins Kept id (Kernel k) other m (joined_view (Kernel k) m) Spent) (sym that) (kernel_takes id k other c))
