-- Values on at most 16 shares have a size.
use Rattle.std.proofs.Common.{◌<◌, ◌≤◌, ◌+◌, ◌*◌, ℕ, zero, suc, max, lit<, arith}
use prog.Memory.{up}

pub value_fits : (n : ℕ) → n ≤ 16 → up 8 (max 16 (max (8 + up 8 (0 + n * 8)) 1)) < 9223372036854775808
value_fits zero h = lit< tt
value_fits (suc zero) h = lit< tt
value_fits (suc (suc zero)) h = lit< tt
value_fits (suc (suc (suc zero))) h = lit< tt
value_fits (suc (suc (suc (suc zero)))) h = lit< tt
value_fits (suc (suc (suc (suc (suc zero))))) h = lit< tt
value_fits (suc (suc (suc (suc (suc (suc zero)))))) h = lit< tt
value_fits (suc (suc (suc (suc (suc (suc (suc zero))))))) h = lit< tt
value_fits (suc (suc (suc (suc (suc (suc (suc (suc zero)))))))) h = lit< tt
value_fits (suc (suc (suc (suc (suc (suc (suc (suc (suc zero))))))))) h = lit< tt
value_fits (suc (suc (suc (suc (suc (suc (suc (suc (suc (suc zero)))))))))) h = lit< tt
value_fits (suc (suc (suc (suc (suc (suc (suc (suc (suc (suc (suc zero))))))))))) h = lit< tt
value_fits (suc (suc (suc (suc (suc (suc (suc (suc (suc (suc (suc (suc zero)))))))))))) h = lit< tt
value_fits (suc (suc (suc (suc (suc (suc (suc (suc (suc (suc (suc (suc (suc zero))))))))))))) h = lit< tt
value_fits (suc (suc (suc (suc (suc (suc (suc (suc (suc (suc (suc (suc (suc (suc zero)))))))))))))) h = lit< tt
value_fits (suc (suc (suc (suc (suc (suc (suc (suc (suc (suc (suc (suc (suc (suc (suc zero))))))))))))))) h = lit< tt
value_fits (suc (suc (suc (suc (suc (suc (suc (suc (suc (suc (suc (suc (suc (suc (suc (suc zero)))))))))))))))) h = lit< tt
value_fits (suc (suc (suc (suc (suc (suc (suc (suc (suc (suc (suc (suc (suc (suc (suc (suc (suc n))))))))))))))))) h = absurd (omega arith)
