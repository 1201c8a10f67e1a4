-- What each netlist takes. The nodes of a graph are the constants, the input bits, the registers and then the operators in order.
use Rattle.std.proofs.Common.{[], ◌∷◌, refl}
use Rattle.mode_examples.specs.Examples.{secure, in_a_row, side_by_side, full_adder, exclusive_or, majority, square, choice_of_two, factor_again, cancelled, bank, bank_marks, wide}
use Rattle.mode_examples.specs.Takes.{Takes, takes}
use Rattle.mode_examples.proofs.Read.{Read, read, takes_by}

abbrev read_products_in_a_row : Read in_a_row (secure 3 1)
read_products_in_a_row = read in_a_row (secure 3 1) (refl, (refl, (refl, (refl, tt)))) refl

pub products_in_a_row : Takes in_a_row (secure 3 1) (takes 2 3) (takes 2 3) (takes 2 3)
products_in_a_row = takes_by in_a_row (secure 3 1) read_products_in_a_row (takes 2 3) (takes 2 3) (takes 2 3) (6 ∷ []) (([], refl, tt, refl), tt) refl refl refl

abbrev read_products_side_by_side : Read side_by_side (secure 4 1)
read_products_side_by_side = read side_by_side (secure 4 1) (refl, (refl, (refl, (refl, (refl, tt))))) refl

pub products_side_by_side : Takes side_by_side (secure 4 1) (takes 3 4) (takes 3 4) (takes 3 4)
products_side_by_side = takes_by side_by_side (secure 4 1) read_products_side_by_side (takes 3 4) (takes 3 4) (takes 3 4) (8 ∷ []) (([], refl, tt, refl), tt) refl refl refl

abbrev read_full_adder : Read full_adder (secure 3 2)
read_full_adder = read full_adder (secure 3 2) (refl, (refl, (refl, (refl, (refl, tt))))) refl

pub full_adder_takes : Takes full_adder (secure 3 2) (takes 3 4) (takes 9 7) (takes 3 3)
full_adder_takes = takes_by full_adder (secure 3 2) read_full_adder (takes 3 4) (takes 9 7) (takes 3 3) (6 ∷ 9 ∷ []) (([], refl, tt, refl), (([], refl, tt, refl), tt)) refl refl refl

abbrev read_exclusive_or : Read exclusive_or (secure 2 1)
read_exclusive_or = read exclusive_or (secure 2 1) (refl, (refl, (refl, tt))) refl

pub exclusive_or_takes : Takes exclusive_or (secure 2 1) (takes 0 0) (takes 3 4) (takes 0 0)
exclusive_or_takes = takes_by exclusive_or (secure 2 1) read_exclusive_or (takes 0 0) (takes 3 4) (takes 0 0) (4 ∷ []) (([], refl, tt, refl), tt) refl refl refl

abbrev read_majority : Read majority (secure 3 1)
read_majority = read majority (secure 3 1) (refl, (refl, (refl, (refl, tt)))) refl

pub majority_takes : Takes majority (secure 3 1) (takes 3 4) (takes 6 6) (takes 3 3)
majority_takes = takes_by majority (secure 3 1) read_majority (takes 3 4) (takes 6 6) (takes 3 3) (8 ∷ []) (([], refl, tt, refl), tt) refl refl refl

abbrev read_square : Read square (secure 1 1)
read_square = read square (secure 1 1) (refl, (refl, tt)) refl

pub square_takes : Takes square (secure 1 1) (takes 1 2) (takes 0 0) (takes 0 0)
square_takes = takes_by square (secure 1 1) read_square (takes 1 2) (takes 0 0) (takes 0 0) (3 ∷ []) (([], refl, tt, refl), tt) refl refl refl

abbrev read_public_choice : Read choice_of_two (secure 2 2)
read_public_choice = read choice_of_two (secure 2 2) (refl, (refl, (refl, (refl, tt)))) refl

pub public_choice_takes : Takes choice_of_two (secure 2 2) (takes 0 0) (takes 1 2) (takes 0 0)
public_choice_takes = takes_by choice_of_two (secure 2 2) read_public_choice (takes 0 0) (takes 1 2) (takes 0 0) (5 ∷ []) (([], refl, tt, refl), tt) refl refl refl

abbrev read_secret_choice : Read choice_of_two (secure 3 1)
read_secret_choice = read choice_of_two (secure 3 1) (refl, (refl, (refl, (refl, tt)))) refl

pub secret_choice_takes : Takes choice_of_two (secure 3 1) (takes 1 2) (takes 3 4) (takes 3 3)
secret_choice_takes = takes_by choice_of_two (secure 3 1) read_secret_choice (takes 1 2) (takes 3 4) (takes 3 3) (5 ∷ []) (([], refl, tt, refl), tt) refl refl refl

abbrev read_factor_again : Read factor_again (secure 2 1)
read_factor_again = read factor_again (secure 2 1) (refl, (refl, (refl, tt))) refl

pub factor_again_takes : Takes factor_again (secure 2 1) (takes 2 3) (takes 2 3) (takes 1 2)
factor_again_takes = takes_by factor_again (secure 2 1) read_factor_again (takes 2 3) (takes 2 3) (takes 1 2) (5 ∷ []) (([], refl, tt, refl), tt) refl refl refl

abbrev read_cancelled : Read cancelled (secure 1 1)
read_cancelled = read cancelled (secure 1 1) (refl, (refl, tt)) refl

pub cancelled_takes : Takes cancelled (secure 1 1) (takes 0 0) (takes 0 0) (takes 0 0)
cancelled_takes = takes_by cancelled (secure 1 1) read_cancelled (takes 0 0) (takes 0 0) (takes 0 0) (3 ∷ []) (([], refl, tt, refl), tt) refl refl refl

abbrev read_bank : Read bank bank_marks
read_bank = read bank bank_marks (refl, (refl, (refl, (refl, (refl, tt))))) refl

pub bank_takes : Takes bank bank_marks (takes 1 2) (takes 1 2) (takes 0 0)
bank_takes = takes_by bank bank_marks read_bank (takes 1 2) (takes 1 2) (takes 0 0) (8 ∷ []) (([], refl, tt, refl), tt) refl refl refl

abbrev read_wide : Read wide (secure 11 1)
read_wide = read wide (secure 11 1) (refl, (refl, (refl, (refl, (refl, (refl, (refl, (refl, (refl, (refl, (refl, (refl, tt)))))))))))) refl

pub wide_takes : Takes wide (secure 11 1) (takes 6 7) (takes 18 14) (takes 6 7)
wide_takes = takes_by wide (secure 11 1) read_wide (takes 6 7) (takes 18 14) (takes 6 7) (22 ∷ 17 ∷ 21 ∷ []) (([], refl, tt, refl), ((22 ∷ [], refl, (refl, tt), refl), ((22 ∷ [], refl, (refl, tt), refl), tt))) refl refl refl
