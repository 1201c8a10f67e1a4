use Rattle.std.proofs.Common.{◌+◌, length, arith, sym, subst, subst₂}
use Rattle.pipeline_balance.proofs.Sizes.{value_fits}
use Rattle.pipeline_balance.proofs.Merging.{IsMerging, public_left, secret_left, merging_begins, merging_more, merging_ends}
use Rattle.pipeline_balance.proofs.initial_ports.merge.Goals as goal

pub last_left-value-requires : goal.last_left-value-requires
last_left-value-requires g c =
    let n = g.row.S in
    let ks = c.args.secrets.now in
    let ps = c.args.publics.now in
    let ss = c.args.shared.now in
    let l = c.loop-r in (
      value_fits n c.requires.size,
      (
        public_left n ks ps ss c.requires.publics c.requires.shared l.r l.shared_left l.values l.invariant c.loop-r-test.true,
        secret_left n ks ps ss c.requires.publics c.requires.shared l.r l.shared_left l.values l.invariant c.loop-r-test.true,
      ),
    )

pub shared_behind-shared_left-requires : goal.shared_behind-shared_left-requires
shared_behind-shared_left-requires g c is =
    let l = c.loop-r in
    (secret_left g.row.S c.args.secrets.now c.args.publics.now c.args.shared.now c.requires.publics c.requires.shared l.r l.shared_left l.values l.invariant c.loop-r-test.true is).0

pub loop-r-init : goal.loop-r-init
loop-r-init g c =
    let ks = c.args.secrets.now in
    let ps = c.args.publics.now in
    let ss = c.args.shared.now in
    subst (IsMerging {n = g.row.S} ks ps ss 0 (length ss)) (sym c.new-values.ensures) (merging_begins g.row.S ks ps ss c.requires.publics c.requires.shared)

pub loop-r-preserved : goal.loop-r-preserved
loop-r-preserved g c =
    let n = g.row.S in
    let ks = c.args.secrets.now in
    let ps = c.args.publics.now in
    let ss = c.args.shared.now in
    let l = c.loop-r in
    subst₂ (λ left values. IsMerging {n = n} ks ps ss (l.r + 1) left values) (sym c.shared_behind-shared_left.ensures) (sym c.in_ok-push.ensures.ok)
    (merging_more n ks ps ss c.requires.publics c.requires.shared l.r l.shared_left l.values l.invariant c.loop-r-test.true c.last_left-value.result c.last_left-value.ensures)

pub returns : goal.returns
returns g c =
    let l = c.loop-r in
    let no = c.loop-r-test.false in
    let le = l.auto.r-end in
    merging_ends g.row.S c.args.secrets.now c.args.publics.now c.args.shared.now l.r l.shared_left l.values l.invariant (omega (arith, no, le))
