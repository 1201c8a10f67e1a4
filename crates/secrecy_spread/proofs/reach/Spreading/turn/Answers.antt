use Rattle.std.proofs.Common.{◌≡◌, ◌<◌, List, ℕ, length, get_or, arith, sym, subst, Result, Ok, Err, OnOk, refl}
use Rattle.std.proofs.lemmas.Option.{get_or_from_slice_get, slice_get_read}
use Rattle.secrecy_spread.specs.Reach.{state, HasFollowed}
use Rattle.secrecy_spread.proofs.Reaching.{last_from_le, turned, rest_within}
use Rattle.secrecy_spread.proofs.reach.Spreading.turn.Goals as goal

-- what is read at a place is there
head_is : (heads : List ℕ) (v x : ℕ) → v < length heads → x ≡ get_or heads v x → get_or heads v 0 ≡ x
head_is heads v x lt is = get_or_from_slice_get heads v x 0 (slice_get_read heads (length heads) v x refl lt is)

pub follow-requires-clause-head : goal.follow-requires-clause-head
follow-requires-clause-head c =
    let edges = c.args.edges.now in
    let v = c.in-Some.vertex in
    let split = c.in-Some.ensures.items in
    let lt = (rest_within (length c.args.self.now.marked.items) c.args.self.now.waiting.items c.pop.new.self.items v split c.requires.within).1 in
    let head = c.requires.chains.last v lt in
    let le = last_from_le edges (length edges) v in
    let one = c.requires.chains.one_each in
    let same = head_is c.args.chains.now.heads.items v c.index-head.result.now (omega arith) c.index-head.ensures in
    omega arith

on_ok : {X E : Type 0} (r : Result X E) (P Q : Type 0) → (P → Q) → OnOk r P → OnOk r Q
on_ok (Ok x) P Q f h = f h
on_ok (Err e) P Q f h = tt

pub returns-in-Some : goal.returns-in-Some
returns-in-Some c =
    let edges = c.args.edges.now in
    let v = c.in-Some.vertex in
    let split = c.in-Some.ensures.items in
    let parts = rest_within (length c.args.self.now.marked.items) c.args.self.now.waiting.items c.pop.new.self.items v split c.requires.within in
    let one = c.requires.chains.one_each in
    let lt = parts.1 in
    let same = head_is c.args.chains.now.heads.items v c.index-head.result.now (omega arith) c.index-head.ensures in
    on_ok c.follow.result _ _ (λ f. turned edges (length c.args.self.now.marked.items) c.args.chains.now.heads.items c.args.chains.now.nexts.items c.args.self.now.marked.items c.args.self.now.waiting.items c.pop.new.self.items v (state c.follow.new.self) split (c.requires.chains.last v parts.1) parts.0 (subst (λ n. HasFollowed edges n (record { marked = c.args.self.now.marked.items; waiting = c.pop.new.self.items }) (state c.follow.new.self)) (sym same) f)) c.follow.ensures
