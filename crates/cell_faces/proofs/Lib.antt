mod Finds
