use Rattle.shared_tape.proofs.Driving.{drives}
use Rattle.shared_tape.proofs.Shared.{fits_are}
use Rattle.shared_tape.proofs.laws.tapes_drive.Goals as goal

pub returns : goal.returns
returns c = λ original report net streams seed rows has fits shared randoms power table many random trace.
    drives original report net has streams seed rows shared fits.within (fits_are original report seed streams rows fits shared) randoms power table many random trace
