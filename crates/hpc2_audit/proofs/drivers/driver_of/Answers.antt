use Rattle.std.proofs.Common.{◌≡◌, get_or, subst}
use Rattle.agm_net.specs.Formula.{formula_of}
use Rattle.agm_net.specs.Plain.{clock_bits}
use Rattle.agm_net.specs.Run.{driver, d_equation}
use Rattle.agm_net.specs.View.{plain_of}
use Rattle.std.proofs.Common.{map}
use Rattle.hpc2_audit.specs.Places.{IsPlace, place_at}
use Rattle.hpc2_audit.specs.declared.places.Place.TheVariants.{Nowhere, At}
use Rattle.hpc2_audit.proofs.Drives.{line_drives, register_drives, clock_drives, bit_drives}
use Rattle.hpc2_audit.proofs.drivers.driver_of.Goals as goal

pub returns-in-At : goal.returns-in-At
returns-in-At c =
    let net = plain_of c.args.net.now in
    let w = c.args.wire in
    let sheet = c.requires.sheet in
    let k = c.in-At.line in
    let e = c.index-as_slice-line.result in
    let at = subst (IsPlace (map (λ l. l.0) net.lines) w) (subst (λ ps. place_at ps w ≡ At k) c.as_slice.ensures c.in-At.is) (sheet.lines.told w c.requires.within) in
    let here : e ≡ get_or c.args.net.now.equations k e = subst (λ es. e ≡ get_or es k e) c.as_slice-in-At.ensures c.index-as_slice-line.is in
    subst (λ x. driver net w ≡ d_equation (formula_of x.expr)) c.index-as_slice-line.is (line_drives c.args.net.now sheet.well k w e at here)

pub returns-in-At-as_slice : goal.returns-in-At-as_slice
returns-in-At-as_slice c =
    let net = plain_of c.args.net.now in
    let w = c.args.wire in
    let sheet = c.requires.sheet in
    let k = c.in-At-as_slice.register in
    let r = c.index-as_slice-register.result in
    let at = subst (IsPlace (map (λ s. s.q) net.registers) w) (subst (λ ps. place_at ps w ≡ At k) c.as_slice-in-Nowhere.ensures c.in-At-as_slice.is) (sheet.registers.told w c.requires.within) in
    let here : r ≡ get_or c.args.net.now.registers k r = subst (λ rs. r ≡ get_or rs k r) c.as_slice-in-At-as_slice.ensures c.index-as_slice-register.is in
    register_drives c.args.net.now sheet.well k w r at here

pub returns-in-At-as_slice-2 : goal.returns-in-At-as_slice-2
returns-in-At-as_slice-2 c =
    let net = plain_of c.args.net.now in
    let w = c.args.wire in
    let sheet = c.requires.sheet in
    let k = c.in-At-as_slice-2.field-0 in
    let at = subst (IsPlace (clock_bits net) w) (subst (λ ps. place_at ps w ≡ At k) c.as_slice-in-Nowhere-as_slice.ensures c.in-At-as_slice-2.is) (sheet.clock.told w c.requires.within) in
    clock_drives c.args.net.now sheet.well k w at

pub returns-in-Nowhere-as_slice-2 : goal.returns-in-Nowhere-as_slice-2
returns-in-Nowhere-as_slice-2 c =
    let net = plain_of c.args.net.now in
    let w = c.args.wire in
    let sheet = c.requires.sheet in
    let lines = subst (IsPlace (map (λ l. l.0) net.lines) w) (subst (λ ps. place_at ps w ≡ Nowhere) c.as_slice.ensures c.in-Nowhere.is) (sheet.lines.told w c.requires.within) in
    let registers = subst (IsPlace (map (λ s. s.q) net.registers) w) (subst (λ ps. place_at ps w ≡ Nowhere) c.as_slice-in-Nowhere.ensures c.in-Nowhere-as_slice.is) (sheet.registers.told w c.requires.within) in
    let clock = subst (IsPlace (clock_bits net) w) (subst (λ ps. place_at ps w ≡ Nowhere) c.as_slice-in-Nowhere-as_slice.ensures c.in-Nowhere-as_slice-2.is) (sheet.clock.told w c.requires.within) in
    bit_drives c.args.net.now sheet.well w c.requires.within lines registers clock
