mod Smalls
