mod Numbered
mod Fits
